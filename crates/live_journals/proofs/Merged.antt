-- What holds of each entry of a merge holds of each of every journal.
use Rattle.std.proofs.Common.{ℕ, List, [], ◌∷◌, ◌++◌, map, inl, inr}
use Rattle.std.specs.Prelude.{All, flat_map}
use Rattle.std.proofs.lemmas.Bool.{cases_Bool}
use Rattle.std.proofs.lemmas.List.Elements.{All-cons, All-head, All-nil, All-tail}
use Rattle.mpt_trace.specs.declared.entry.Entry.{Entry}
use Rattle.mpt_rules.specs.Session.Journals.{At, Block, Of, Row, all_merged, all_of, is_not_after, merged, moment_values, party_number, placed}
use Rattle.mpt_journal.specs.Laws.{each_of}

module _ (Holds : Entry → Type 0) where
  abbrev pub OfEach : List (Of Entry) → Type 0
  OfEach [] = Unit {0}
  OfEach (m ∷ ms) = Holds m.at.value × OfEach ms

  of_values : (ms : List (Of Entry)) → All Holds (moment_values ms) → OfEach ms
  of_values [] h = tt
  of_values (m ∷ ms) h = (All-head Holds m.at.value (moment_values ms) h, of_values ms (All-tail Holds m.at.value (moment_values ms) h))

  -- ---- of a merge

  parted_at : (x : Of Entry) (xs : List (Of Entry)) → ((ys : List (Of Entry)) → OfEach (merged xs ys) → OfEach xs × OfEach ys)
      → (ys : List (Of Entry)) → OfEach (placed x (merged xs) ys) → OfEach (x ∷ xs) × OfEach ys
  parted_at x xs rest [] h = ((h.0, (rest [] h.1).0), tt)
  parted_at x xs rest (y ∷ ys) h = elim (cases_Bool (is_not_after x y)) [
    | inl goes ↦ (let k : OfEach (x ∷ merged xs (y ∷ ys)) = rw goes at h in ((k.0, (rest (y ∷ ys) k.1).0), (rest (y ∷ ys) k.1).1))
    | inr waits ↦ (let k : OfEach (y ∷ placed x (merged xs) ys) = rw waits at h in let r = parted_at x xs rest ys k.1 in (r.0, (k.0, r.1)))
  ]

  parted : (xs ys : List (Of Entry)) → OfEach (merged xs ys) → OfEach xs × OfEach ys
  parted [] ys h = (tt, h)
  parted (x ∷ xs) ys h = parted_at x xs (parted xs) ys h

  abbrev pub OfRows : List (Row Entry) → Type 0
  OfRows [] = Unit {0}
  OfRows (row ∷ rows) = OfEach (all_of (party_number row.party) row.moments) × OfRows rows

  of_all : (rows : List (Row Entry)) → OfEach (all_merged rows) → OfRows rows
  of_all [] h = tt
  of_all (row ∷ rows) h =
      let r = parted (all_of (party_number row.party) row.moments) (all_merged rows) h in
      (r.0, of_all rows r.1)

  pub of_rows : (rows : List (Row Entry)) → All Holds (moment_values (all_merged rows)) → OfRows rows
  of_rows rows h = of_all rows (of_values (all_merged rows) h)

  -- ---- of whole cases

  of_front : (n s : ℕ) (es : List Entry) (rest : List (At Entry)) → OfEach (all_of n (map (λ (e : Entry). record { stamp = s; value = e }) es ++ rest)) → All Holds es × OfEach (all_of n rest)
  of_front n s [] rest h = (All-nil Holds, h)
  of_front n s (e ∷ es) rest h =
      let r = of_front n s es rest h.1 in
      (All-cons Holds e es h.0 r.0, r.1)

  -- it holds of each entry
  abbrev pub OfBlocks : List Block → Type 0
  OfBlocks [] = Unit {0}
  OfBlocks (b ∷ bs) = All Holds b.value × OfBlocks bs

  pub of_blocks : (n : ℕ) (blocks : List Block) → OfEach (all_of n (flat_map each_of blocks)) → OfBlocks blocks
  of_blocks n [] h = tt
  of_blocks n (b ∷ bs) h =
      let r = of_front n b.stamp b.value (flat_map each_of bs) h in
      (r.0, of_blocks n bs r.1)
