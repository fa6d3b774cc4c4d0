-- What holds of each case of each journal holds of each case of the merge.
use Rattle.std.proofs.Common.{◌≡◌, ℕ, Bool, true, false, ◌||◌, List, [], ◌∷◌, ◌++◌, Option, None, refl, inl, inr}
use Rattle.std.specs.Prelude.{All, flat_map}
use Rattle.std.specs.List.{list_any}
use Rattle.std.proofs.lemmas.Bool.{cases_Bool}
use Rattle.std.proofs.lemmas.List.Elements.{All-head, All-tail}
use Rattle.mpt_trace.specs.declared.entry.Entry.{Entry}
use Rattle.mpt_trace.specs.declared.parties.Party.{Party}
use Rattle.mpt_wire.specs.Fits.Plan.{is_idle}
use Rattle.mpt_wire.specs.Ties.ToldInPlace.{TellsInPlace, last_party_next}
use Rattle.mpt_wire.specs.Walks.Passes.{Passes, state_after}
use Rattle.mpt_wire.proofs.Passing.{passes_append}
use Rattle.mpt_rules.specs.Session.Journals.{At, Block, Of, Row, all_merged, all_of, entries_of, is_not_after, merged, party_number, placed}
use Rattle.mpt_rules.specs.Session.Sessions.{Session, journals, session_trace}
use Rattle.mpt_rules.specs.World.Settings.{Setting}
use Rattle.law_parties.proofs.InPlace.{IsInPlace, case_passes}
use Rattle.law_parties.proofs.Owned.{AreOwned, IsOwned, own_not_idle}
use Rattle.law_sessions.proofs.Journals.{HasWholeCases, IsWholeCase, journals_whole}

module _ {X : Type 0} (P : At X → Type 0) where
  -- it holds of each
  abbrev pub Each : List (Of X) → Type 0
  Each [] = Unit {0}
  Each (x ∷ xs) = P x.at × Each xs

  each_placed : (x : Of X) (xs : List (Of X)) → P x.at → ((ys : List (Of X)) → Each ys → Each (merged xs ys)) → (ys : List (Of X)) → Each ys → Each (placed x (merged xs) ys)
  each_placed x xs p rest [] h = (p, rest [] tt)
  each_placed x xs p rest (y ∷ ys) h = elim (cases_Bool (is_not_after x y)) [
    | inl goes ↦ rw goes (p, rest (y ∷ ys) h)
    | inr waits ↦ rw waits (h.0, each_placed x xs p rest ys h.1)
  ]

  pub each_merged : (xs ys : List (Of X)) → Each xs → Each ys → Each (merged xs ys)
  each_merged [] ys a b = b
  each_merged (x ∷ xs) ys a b = each_placed x xs a.0 (λ zs h. each_merged xs zs a.1 h) ys b

-- a case that is some party's
pub record IsSome (block : Block) : Type 0 where
  pub party : Party
  pub whole : IsWholeCase party block

each_of_row : (party : Party) (n : ℕ) (blocks : List Block) → All (IsWholeCase party) blocks → Each IsSome (all_of n blocks)
each_of_row party n [] h = tt
each_of_row party n (b ∷ bs) h = (record { party = party; whole = All-head (IsWholeCase party) b bs h }, each_of_row party n bs (All-tail (IsWholeCase party) b bs h))

each_of_rows : (rows : List (Row (List Entry))) → All HasWholeCases rows → Each IsSome (all_merged rows)
each_of_rows [] h = tt
each_of_rows (row ∷ rows) h =
    each_merged IsSome (all_of (party_number row.party) row.moments) (all_merged rows) (each_of_row row.party (party_number row.party) row.moments (All-head HasWholeCases row rows h))
    (each_of_rows rows (All-tail HasWholeCases row rows h))

-- ---- what is told stands behind an entry of its own party

in_place : (last : Option Party) (blocks : List (Of (List Entry))) → Each IsSome blocks → Passes last_party_next IsInPlace last (flat_map entries_of blocks)
in_place last [] h = tt
in_place last (b ∷ bs) h =
    passes_append last_party_next IsInPlace last b.at.value (flat_map entries_of bs) (case_passes h.0.party last b.at.value h.0.whole.opens h.0.whole.owned)
    (in_place (state_after last_party_next last b.at.value) bs h.1)

pub session_in_place : (s : Setting) (x : Session) → TellsInPlace (session_trace s x)
session_in_place s x = in_place None (all_merged (journals s x)) (each_of_rows (journals s x) (journals_whole s x))

-- ---- no choice was idle

idle_append : (t u : List Entry) → list_any is_idle t ≡ false → list_any is_idle u ≡ false → list_any is_idle (t ++ u) ≡ false
idle_append [] u a b = b
idle_append (e ∷ t) u a b = by_test (is_idle e) a (λ z. idle_append t u z b)
  where
    by_test : (c : Bool) → (c || list_any is_idle t) ≡ false → (list_any is_idle t ≡ false → list_any is_idle (t ++ u) ≡ false) → (c || list_any is_idle (t ++ u)) ≡ false
    by_test true z ih = absurd (cc)
    by_test false z ih = ih z

none_idle : (party : Party) (es : List Entry) → AreOwned party es → list_any is_idle es ≡ false
none_idle party [] h = refl
none_idle party (e ∷ es) h = rw (own_not_idle party e (All-head (IsOwned party) e es h)) (none_idle party es (All-tail (IsOwned party) e es h))

no_idle : (blocks : List (Of (List Entry))) → Each IsSome blocks → list_any is_idle (flat_map entries_of blocks) ≡ false
no_idle [] h = refl
no_idle (b ∷ bs) h = idle_append b.at.value (flat_map entries_of bs) (none_idle h.0.party b.at.value h.0.whole.owned) (no_idle bs h.1)

pub session_no_idle : (s : Setting) (x : Session) → list_any is_idle (session_trace s x) ≡ false
session_no_idle s x = no_idle (all_merged (journals s x)) (each_of_rows (journals s x) (journals_whole s x))
