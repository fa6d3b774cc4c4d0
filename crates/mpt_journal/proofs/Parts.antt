-- The part of a party in a merge.
use Rattle.std.proofs.Common.{◌≡◌, ◌≢◌, ◌==◌, ℕ, true, false, Bool, cond, List, [], ◌∷◌, arith, refl, sym, ap, ◌∙◌, inl, inr, map}
use Rattle.std.specs.Prelude.{All, filter}
use Rattle.std.proofs.lemmas.Bool.{cases_Bool}
use Rattle.std.proofs.lemmas.Bool.Decides.{nat_tests}
use Rattle.std.proofs.lemmas.List.Elements.{All-cons, All-head, All-nil, All-tail, All-weaker}
use Rattle.mpt_trace.specs.declared.entry.Entry.{Entry}
use Rattle.mpt_trace.specs.declared.parties.Party.{Party}
use Rattle.mpt_trace.specs.declared.parties.Party.TheVariants as party
use Rattle.mpt_trace.specs.Parties.{party_of}
use Rattle.mpt_wire.specs.Walks.Ahead.{is_of, same_party}
use Rattle.mpt_rules.specs.Session.Journals.{At, Of, Row, all_merged, all_of, is_not_after, merged, moment_values, party_number, placed}
use Rattle.mpt_journal.specs.Laws.{AreOfOthers, HasJournal, HasOwnEntries, PartiesDiffer, ShowsJournal, part_of}
use Rattle.mpt_journal.proofs.Merges.{merged-nil}

module _ {X : Type 0} (p : Of X → Bool) where
  -- what the right list has none of comes from the left one
  filter-placed_left : (x : Of X) (xs : List (Of X)) → ((ys : List (Of X)) → filter p ys ≡ [] → filter p (merged xs ys) ≡ filter p xs)
      → (ys : List (Of X)) → filter p ys ≡ [] → filter p (placed x (merged xs) ys) ≡ filter p (x ∷ xs)
  filter-placed_left x xs rest [] h = ap (λ (zs : List (Of X)). filter p (x ∷ zs)) (merged-nil xs)
  filter-placed_left x xs rest (y ∷ ys) h = elim (cases_Bool (is_not_after x y)) [
    | inl goes ↦ rw goes (ap (λ (zs : List (Of X)). cond (p x) (x ∷ zs) zs) (rest (y ∷ ys) h))
    | inr waits ↦ elim (cases_Bool (p y)) [
      | inl has ↦ (let never : y ∷ filter p ys ≡ [] = rw has at h in cc)
      | inr hasnt ↦ (let none : filter p ys ≡ [] = rw hasnt at h in rw (waits, hasnt) (filter-placed_left x xs rest ys none))
    ]
  ]

  pub filter-merged_left : (xs ys : List (Of X)) → filter p ys ≡ [] → filter p (merged xs ys) ≡ filter p xs
  filter-merged_left [] ys h = h
  filter-merged_left (x ∷ xs) ys h = filter-placed_left x xs (filter-merged_left xs) ys h

  -- and the other way round
  filter-placed_right : (x : Of X) (xs : List (Of X)) → p x ≡ false → ((ys : List (Of X)) → filter p (merged xs ys) ≡ filter p ys)
      → (ys : List (Of X)) → filter p (placed x (merged xs) ys) ≡ filter p ys
  filter-placed_right x xs not rest [] = rw not (rest [])
  filter-placed_right x xs not rest (y ∷ ys) = elim (cases_Bool (is_not_after x y)) [
    | inl goes ↦ rw (goes, not) (rest (y ∷ ys))
    | inr waits ↦ rw waits (ap (λ (zs : List (Of X)). cond (p y) (y ∷ zs) zs) (filter-placed_right x xs not rest ys))
  ]

  pub filter-merged_right : (xs ys : List (Of X)) → filter p xs ≡ [] → filter p (merged xs ys) ≡ filter p ys
  filter-merged_right [] ys h = refl
  filter-merged_right (x ∷ xs) ys h = elim (cases_Bool (p x)) [
    | inl has ↦ (let never : x ∷ filter p xs ≡ [] = rw has at h in cc)
    | inr hasnt ↦ (let none : filter p xs ≡ [] = rw hasnt at h in filter-placed_right x xs hasnt (λ zs. filter-merged_right xs zs none) ys)
  ]

module _ {X : Type 0} where
  part-own : (party : Party) (moments : List (At X)) → part_of party (all_of (party_number party) moments) ≡ all_of (party_number party) moments
  part-own party [] = refl
  part-own party (x ∷ xs) =
      let same : (party_number party == party_number party) ≡ true = grind (arith, nat_tests) in
      rw same (ap (λ (zs : List (Of X)). record { number = party_number party; at = x } ∷ zs) (part-own party xs))

  part-others : (party : Party) (n : ℕ) (moments : List (At X)) → n ≢ party_number party → part_of party (all_of n moments) ≡ []
  part-others party n [] differ = refl
  part-others party n (x ∷ xs) differ =
      let other : (n == party_number party) ≡ false = grind (arith, nat_tests) in
      rw other (part-others party n xs differ)

  -- a merge of other parties' journals has nothing of a party
  part-none : (party : Party) (rows : List (Row X)) → AreOfOthers party rows → part_of party (all_merged rows) ≡ []
  part-none party [] h = refl
  part-none party (row ∷ rows) h =
      filter-merged_right (λ (m : Of X). m.number == party_number party) (all_of (party_number row.party) row.moments) (all_merged rows)
      (part-others party (party_number row.party) row.moments (All-head (λ (r : Row X). party_number r.party ≢ party_number party) row rows h))
      ∙ part-none party rows (All-tail (λ (r : Row X). party_number r.party ≢ party_number party) row rows h)

  -- one party's journal more leaves the others' parts as they are
  parts-kept : (row : Row X) (moments : List (Of X)) (rows : List (Row X)) → AreOfOthers row.party rows → All (HasJournal moments) rows
      → All (HasJournal (merged (all_of (party_number row.party) row.moments) moments)) rows
  parts-kept row moments [] differ h = All-nil (HasJournal (merged (all_of (party_number row.party) row.moments) moments))
  parts-kept row moments (other ∷ rows) differ h =
      let apart : party_number other.party ≢ party_number row.party = All-head (λ (r : Row X). party_number r.party ≢ party_number row.party) other rows differ in
      All-cons (HasJournal (merged (all_of (party_number row.party) row.moments) moments)) other rows
      (filter-merged_right (λ (m : Of X). m.number == party_number other.party) (all_of (party_number row.party) row.moments) moments
      (part-others other.party (party_number row.party) row.moments (λ e. apart (sym e)))
      ∙ All-head (HasJournal moments) other rows h)
      (parts-kept row moments rows (All-tail (λ (r : Row X). party_number r.party ≢ party_number row.party) other rows differ) (All-tail (HasJournal moments) other rows h))

  pub parts_are_journals : (rows : List (Row X)) → PartiesDiffer rows → All (HasJournal (all_merged rows)) rows
  parts_are_journals [] h = All-nil (HasJournal {X = X} [])
  parts_are_journals (row ∷ rows) h =
      All-cons (HasJournal (all_merged (row ∷ rows))) row rows
      (filter-merged_left (λ (m : Of X). m.number == party_number row.party) (all_of (party_number row.party) row.moments) (all_merged rows)
      (part-none row.party rows h.0)
      ∙ part-own row.party row.moments)
      (parts-kept row (all_merged rows) rows h.0 (parts_are_journals rows h.1))

-- ---- the same of the entries

-- the parties are one only where their numbers are
pub number-from_same : (p q : Party) → same_party p q ≡ true → party_number p ≡ party_number q
number-from_same party.Host party.Host h = refl
number-from_same party.Host party.Ioc h = cc
number-from_same party.Host party.Fabric h = cc
number-from_same party.Host (party.Submitter j) h = cc
number-from_same party.Ioc party.Host h = cc
number-from_same party.Ioc party.Ioc h = refl
number-from_same party.Ioc party.Fabric h = cc
number-from_same party.Ioc (party.Submitter j) h = cc
number-from_same party.Fabric party.Host h = cc
number-from_same party.Fabric party.Ioc h = cc
number-from_same party.Fabric party.Fabric h = refl
number-from_same party.Fabric (party.Submitter j) h = cc
number-from_same (party.Submitter i) party.Host h = cc
number-from_same (party.Submitter i) party.Ioc h = cc
number-from_same (party.Submitter i) party.Fabric h = cc
number-from_same (party.Submitter i) (party.Submitter j) h = grind (arith, nat_tests)

-- the moment's entry is the party's
abbrev is_own : Party → Of Entry → Bool
is_own party m = is_of party m.at.value

other-entry : (p q : Party) (e : Entry) → party_number p ≢ party_number q → is_of p e ≡ true → is_of q e ≡ false
other-entry p q e differ h = elim (cases_Bool (is_of q e)) [
  | inl both ↦ absurd (differ (sym (number-from_same (party_of e) p h) ∙ number-from_same (party_of e) q both))
  | inr not ↦ not
]

pub filter-values : (party : Party) (moments : List (Of Entry)) → filter (is_of party) (moment_values moments) ≡ moment_values (filter (is_own party) moments)
filter-values party [] = refl
filter-values party (m ∷ ms) = elim (cases_Bool (is_of party m.at.value)) [
  | inl own ↦ rw own (ap (λ (zs : List Entry). m.at.value ∷ zs) (filter-values party ms))
  | inr not ↦ rw not (filter-values party ms)
]

own-all_of : (party : Party) (n : ℕ) (moments : List (At Entry)) → All (λ (m : At Entry). is_of party m.value ≡ true) moments → filter (is_own party) (all_of n moments) ≡ all_of n moments
own-all_of party n [] h = refl
own-all_of party n (m ∷ ms) h =
    let own : is_of party m.value ≡ true = All-head (λ (x : At Entry). is_of party x.value ≡ true) m ms h in
    rw own (ap (λ (zs : List (Of Entry)). record { number = n; at = m } ∷ zs) (own-all_of party n ms (All-tail (λ (x : At Entry). is_of party x.value ≡ true) m ms h)))

other-all_of : (p q : Party) (n : ℕ) (moments : List (At Entry)) → party_number p ≢ party_number q → All (λ (m : At Entry). is_of p m.value ≡ true) moments → filter (is_own q) (all_of n moments) ≡ []
other-all_of p q n [] differ h = refl
other-all_of p q n (m ∷ ms) differ h =
    let not : is_of q m.value ≡ false = other-entry p q m.value differ (All-head (λ (x : At Entry). is_of p x.value ≡ true) m ms h) in
    rw not (other-all_of p q n ms differ (All-tail (λ (x : At Entry). is_of p x.value ≡ true) m ms h))

-- the moments of a party's entries are those of its journal
abbrev HasOwn : List (Of Entry) → Row Entry → Type 0
HasOwn moments row = filter (is_own row.party) moments ≡ all_of (party_number row.party) row.moments

pub own-none : (party : Party) (rows : List (Row Entry)) → AreOfOthers party rows → All HasOwnEntries rows → filter (is_own party) (all_merged rows) ≡ []
own-none party [] differ h = refl
own-none party (row ∷ rows) differ h =
    filter-merged_right (is_own party) (all_of (party_number row.party) row.moments) (all_merged rows)
    (other-all_of row.party party (party_number row.party) row.moments (All-head (λ (r : Row Entry). party_number r.party ≢ party_number party) row rows differ) (All-head HasOwnEntries row rows h))
    ∙ own-none party rows (All-tail (λ (r : Row Entry). party_number r.party ≢ party_number party) row rows differ) (All-tail HasOwnEntries row rows h)

own-kept : (row : Row Entry) (moments : List (Of Entry)) (rows : List (Row Entry)) → AreOfOthers row.party rows → HasOwnEntries row → All (HasOwn moments) rows
    → All (HasOwn (merged (all_of (party_number row.party) row.moments) moments)) rows
own-kept row moments [] differ own h = All-nil (HasOwn (merged (all_of (party_number row.party) row.moments) moments))
own-kept row moments (other ∷ rows) differ own h =
    let apart : party_number other.party ≢ party_number row.party = All-head (λ (r : Row Entry). party_number r.party ≢ party_number row.party) other rows differ in
    All-cons (HasOwn (merged (all_of (party_number row.party) row.moments) moments)) other rows
    (filter-merged_right (is_own other.party) (all_of (party_number row.party) row.moments) moments
    (other-all_of row.party other.party (party_number row.party) row.moments (λ e. apart (sym e)) own)
    ∙ All-head (HasOwn moments) other rows h)
    (own-kept row moments rows (All-tail (λ (r : Row Entry). party_number r.party ≢ party_number row.party) other rows differ) own (All-tail (HasOwn moments) other rows h))

own_are_journals : (rows : List (Row Entry)) → PartiesDiffer rows → All HasOwnEntries rows → All (HasOwn (all_merged rows)) rows
own_are_journals [] h own = All-nil (HasOwn [])
own_are_journals (row ∷ rows) h own =
    All-cons (HasOwn (all_merged (row ∷ rows))) row rows
    (filter-merged_left (is_own row.party) (all_of (party_number row.party) row.moments) (all_merged rows)
    (own-none row.party rows h.0 (All-tail HasOwnEntries row rows own))
    ∙ own-all_of row.party (party_number row.party) row.moments (All-head HasOwnEntries row rows own))
    (own-kept row (all_merged rows) rows h.0 (All-head HasOwnEntries row rows own) (own_are_journals rows h.1 (All-tail HasOwnEntries row rows own)))

values-all_of : (n : ℕ) (moments : List (At Entry)) → moment_values (all_of n moments) ≡ map (λ (m : At Entry). m.value) moments
values-all_of n [] = refl
values-all_of n (m ∷ ms) = ap (λ (zs : List Entry). m.value ∷ zs) (values-all_of n ms)

pub journals_are_shown : (rows : List (Row Entry)) → PartiesDiffer rows → All HasOwnEntries rows → All (ShowsJournal (moment_values (all_merged rows))) rows
journals_are_shown rows h own =
    All-weaker (HasOwn (all_merged rows)) (ShowsJournal (moment_values (all_merged rows)))
    (λ row has. filter-values row.party (all_merged rows) ∙ ap moment_values has ∙ values-all_of (party_number row.party) row.moments)
    rows (own_are_journals rows h own)
