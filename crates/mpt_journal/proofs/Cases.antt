-- The part of a party in a merge of whole cases.
use Rattle.std.proofs.Common.{◌≡◌, ◌≢◌, ℕ, true, List, [], ◌∷◌, ◌++◌, map, refl, sym, ap, ◌∙◌}
use Rattle.std.specs.Prelude.{All, filter, flat_map}
use Rattle.std.proofs.lemmas.List.Elements.{All-append, All-cons, All-head, All-nil, All-tail}
use Rattle.mpt_trace.specs.declared.entry.Entry.{Entry}
use Rattle.mpt_trace.specs.declared.parties.Party.{Party}
use Rattle.mpt_wire.specs.Walks.Ahead.{is_of}
use Rattle.mpt_rules.specs.Session.Journals.{At, Block, Row, all_merged, merge, moment_values, party_number}
use Rattle.mpt_rules.specs.Session.Parts.{IsPartOf, entries_in}
use Rattle.mpt_journal.specs.Laws.{AreOfOthers, CasesRise, HasOwnCases, HasOwnEntries, PartiesDiffer, ShowsJournal, by_entries, each_of}
use Rattle.mpt_journal.proofs.Parts.{journals_are_shown}
use Rattle.mpt_journal.proofs.Whole.{merge-entries}

-- the moment's entry is the party's
abbrev IsOwn : Party → At Entry → Type 0
IsOwn party m = is_of party m.value ≡ true

abbrev IsOwnEntry : Party → Entry → Type 0
IsOwnEntry party e = is_of party e ≡ true

pub others-entries : (party : Party) (rows : List (Row (List Entry))) → AreOfOthers party rows → AreOfOthers party (map by_entries rows)
others-entries party [] h = All-nil (λ (r : Row Entry). party_number r.party ≢ party_number party)
others-entries party (row ∷ rows) h =
    All-cons (λ (r : Row Entry). party_number r.party ≢ party_number party) (by_entries row) (map by_entries rows)
    (All-head (λ (r : Row (List Entry)). party_number r.party ≢ party_number party) row rows h)
    (others-entries party rows (All-tail (λ (r : Row (List Entry)). party_number r.party ≢ party_number party) row rows h))

pub differ-entries : (rows : List (Row (List Entry))) → PartiesDiffer rows → PartiesDiffer (map by_entries rows)
differ-entries [] h = tt
differ-entries (row ∷ rows) h = (others-entries row.party rows h.0, differ-entries rows h.1)

own-each : (party : Party) (stamp : ℕ) (es : List Entry) → All (IsOwnEntry party) es → All (IsOwn party) (map (λ (e : Entry). record { stamp = stamp; value = e }) es)
own-each party stamp [] h = All-nil (IsOwn party)
own-each party stamp (e ∷ es) h =
    All-cons (IsOwn party) (record { stamp = stamp; value = e }) (map (λ (x : Entry). record { stamp = stamp; value = x }) es)
    (All-head (IsOwnEntry party) e es h) (own-each party stamp es (All-tail (IsOwnEntry party) e es h))

own-blocks : (party : Party) (blocks : List Block) → All (λ (b : Block). All (IsOwnEntry party) b.value) blocks → All (IsOwn party) (flat_map each_of blocks)
own-blocks party [] h = All-nil (IsOwn party)
own-blocks party (b ∷ bs) h =
    All-append (IsOwn party) (each_of b) (flat_map each_of bs)
    (own-each party b.stamp b.value (All-head (λ (x : Block). All (IsOwnEntry party) x.value) b bs h))
    (own-blocks party bs (All-tail (λ (x : Block). All (IsOwnEntry party) x.value) b bs h))

pub own-entries : (rows : List (Row (List Entry))) → All HasOwnCases rows → All HasOwnEntries (map by_entries rows)
own-entries [] h = All-nil HasOwnEntries
own-entries (row ∷ rows) h =
    All-cons HasOwnEntries (by_entries row) (map by_entries rows)
    (own-blocks row.party row.moments (All-head HasOwnCases row rows h)) (own-entries rows (All-tail HasOwnCases row rows h))

values-each : (stamp : ℕ) (es : List Entry) (rest : List (At Entry)) → map (λ (m : At Entry). m.value) (map (λ (e : Entry). record { stamp = stamp; value = e }) es ++ rest) ≡ es ++ map (λ (m : At Entry). m.value) rest
values-each stamp [] rest = refl
values-each stamp (e ∷ es) rest = ap (λ (zs : List Entry). e ∷ zs) (values-each stamp es rest)

values-blocks : (blocks : List Block) → map (λ (m : At Entry). m.value) (flat_map each_of blocks) ≡ entries_in blocks
values-blocks [] = refl
values-blocks (b ∷ bs) = values-each b.stamp b.value (flat_map each_of bs) ∙ ap (λ (zs : List Entry). b.value ++ zs) (values-blocks bs)

parts-of_shown : (trace whole : List Entry) (rows : List (Row (List Entry))) → trace ≡ whole → All (ShowsJournal trace) (map by_entries rows) → All (IsPartOf whole) rows
parts-of_shown trace whole [] same h = All-nil (IsPartOf whole)
parts-of_shown trace whole (row ∷ rows) same h =
    All-cons (IsPartOf whole) row rows
    (ap (filter (is_of row.party)) (sym same) ∙ All-head (ShowsJournal trace) (by_entries row) (map by_entries rows) h ∙ values-blocks row.moments)
    (parts-of_shown trace whole rows same (All-tail (ShowsJournal trace) (by_entries row) (map by_entries rows) h))

pub cases_are_shown : (rows : List (Row (List Entry))) → PartiesDiffer rows → All CasesRise rows → All HasOwnCases rows → All (IsPartOf (merge rows)) rows
cases_are_shown rows differ rises own =
    parts-of_shown (moment_values (all_merged (map by_entries rows))) (merge rows) rows (merge-entries rows rises)
    (journals_are_shown (map by_entries rows) (differ-entries rows differ) (own-entries rows own))
