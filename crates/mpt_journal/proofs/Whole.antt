-- The merge of entries one by one is that of whole cases.
use Rattle.std.proofs.Common.{◌≡◌, ℕ, true, false, List, [], ◌∷◌, ◌++◌, map, arith, refl, sym, ap, ◌∙◌, inl, inr}
use Rattle.std.specs.Prelude.{All, flat_map}
use Rattle.std.proofs.lemmas.Bool.{cases_Bool}
use Rattle.std.proofs.lemmas.List.Elements.{All-head, All-tail, All-weaker}
use Rattle.mpt_trace.specs.declared.entry.Entry.{Entry}
use Rattle.mpt_rules.specs.Session.Journals.{At, Block, Of, Rises, Row, all_merged, all_of, entries_of, is_not_after, merge, merged, moment_values, party_number, placed}
use Rattle.mpt_journal.specs.Laws.{CasesRise, RisesOrStays, by_entries, each_of}
use Rattle.mpt_journal.proofs.Merges.{merged-nil}
use Rattle.mpt_journal.proofs.Stamps.{IsntBefore, Sorted, before, before-not, before-through, sorted-all_merged, sorted-all_of}

-- a value of the stamp s and the number n
abbrev pub keyed : {X : Type 0} → ℕ → ℕ → X → Of X
keyed s n x = record { number = n; at = record { stamp = s; value = x } }

-- the values of a moment one by one
abbrev pub spread : {X : Type 0} → Of (List X) → List (Of X)
spread b = map (keyed b.at.stamp b.number) b.at.value

abbrev pub all_spread : {X : Type 0} → List (Of (List X)) → List (Of X)
all_spread [] = []
all_spread (b ∷ bs) = spread b ++ all_spread bs

-- the first of the moments is after the stamp s and the number n
abbrev pub IsPast : {X : Type 0} → ℕ → ℕ → List (Of X) → Type 0
IsPast s n [] = Unit {0}
IsPast s n (x ∷ xs) = before x.at.stamp x.number s n ≡ false

module _ {X : Type 0} where
  -- what isn't after the other list comes first
  merged-front : (s n : ℕ) (es : List X) (rest zs : List (Of X)) → IsntBefore s n zs → merged (map (keyed s n) es ++ rest) zs ≡ map (keyed s n) es ++ merged rest zs
  merged-front s n [] rest zs h = refl
  merged-front s n (e ∷ es) rest [] h = ap (λ (ls : List (Of X)). keyed s n e ∷ ls) (merged-front s n es rest [] tt)
  merged-front s n (e ∷ es) rest (z ∷ zs) h = rw h (ap (λ (ls : List (Of X)). keyed s n e ∷ ls) (merged-front s n es rest (z ∷ zs) h))

  merged-behind : (s n : ℕ) (es : List X) (zs rest : List (Of X)) → IsPast s n zs → merged zs (map (keyed s n) es ++ rest) ≡ map (keyed s n) es ++ merged zs rest
  merged-behind s n es [] rest h = refl
  merged-behind s n [] (z ∷ zs) rest h = refl
  merged-behind s n (e ∷ es) (z ∷ zs) rest h = rw h (ap (λ (ls : List (Of X)). keyed s n e ∷ ls) (merged-behind s n es (z ∷ zs) rest h))

  -- ---- what the first of whole moments is, the first of their values is

  follows-values : (s n t m : ℕ) (es : List X) (rest : List (Of X)) → before s n t m ≡ true → IsntBefore s n rest → IsntBefore s n (map (keyed t m) es ++ rest)
  follows-values s n t m [] rest a b = b
  follows-values s n t m (e ∷ es) rest a b = a

  follows-through : (s n t m : ℕ) (bs : List (Of (List X))) → before s n t m ≡ true → IsntBefore t m bs → IsntBefore s n bs
  follows-through s n t m [] a b = tt
  follows-through s n t m (c ∷ cs) a b = before-through s n t m c.at.stamp c.number a b

  follows-spread : (s n : ℕ) (bs : List (Of (List X))) → IsntBefore s n bs → Sorted bs → IsntBefore s n (all_spread bs)
  follows-spread s n [] a h = tt
  follows-spread s n (b ∷ bs) a h =
      follows-values s n b.at.stamp b.number b.at.value (all_spread bs) a
      (follows-spread s n bs (follows-through s n b.at.stamp b.number bs a h.0) h.1)

  past-values : (s n t m : ℕ) (es : List X) (rest : List (Of X)) → before t m s n ≡ false → IsPast s n rest → IsPast s n (map (keyed t m) es ++ rest)
  past-values s n t m [] rest a b = b
  past-values s n t m (e ∷ es) rest a b = a

  past-through : (s n t m : ℕ) (bs : List (Of (List X))) → before t m s n ≡ false → IsntBefore t m bs → IsPast s n bs
  past-through s n t m [] a b = tt
  past-through s n t m (c ∷ cs) a b = before-not s n t m c.at.stamp c.number a b

  past-spread : (s n : ℕ) (bs : List (Of (List X))) → IsPast s n bs → Sorted bs → IsPast s n (all_spread bs)
  past-spread s n [] a h = tt
  past-spread s n (b ∷ bs) a h =
      past-values s n b.at.stamp b.number b.at.value (all_spread bs) a
      (past-spread s n bs (past-through s n b.at.stamp b.number bs a h.0) h.1)

  -- ---- the merge

  merged-spread_at : (x : Of (List X)) (xs : List (Of (List X))) → Sorted (x ∷ xs)
      → ((ys : List (Of (List X))) → Sorted ys → merged (all_spread xs) (all_spread ys) ≡ all_spread (merged xs ys))
      → (ys : List (Of (List X))) → Sorted ys → merged (spread x ++ all_spread xs) (all_spread ys) ≡ all_spread (placed x (merged xs) ys)
  merged-spread_at x xs sorted rest [] h =
      merged-nil (spread x ++ all_spread xs) ∙ sym (ap (λ (zs : List (Of (List X))). spread x ++ all_spread zs) (merged-nil xs))
  merged-spread_at x xs sorted rest (y ∷ ys) h = elim (cases_Bool (is_not_after x y)) [
    | inl goes ↦ rw goes (
        merged-front x.at.stamp x.number x.at.value (all_spread xs) (all_spread (y ∷ ys)) (follows-spread x.at.stamp x.number (y ∷ ys) goes h)
        ∙ ap (λ (zs : List (Of X)). spread x ++ zs) (rest (y ∷ ys) h))
    | inr waits ↦ rw waits (
        merged-behind y.at.stamp y.number y.at.value (all_spread (x ∷ xs)) (all_spread ys) (past-spread y.at.stamp y.number (x ∷ xs) waits sorted)
        ∙ ap (λ (zs : List (Of X)). spread y ++ zs) (merged-spread_at x xs sorted rest ys h.1))
  ]

  pub merged-spread : (xs ys : List (Of (List X))) → Sorted xs → Sorted ys → merged (all_spread xs) (all_spread ys) ≡ all_spread (merged xs ys)
  merged-spread [] ys a b = refl
  merged-spread (x ∷ xs) ys a b = merged-spread_at x xs a (λ zs h. merged-spread xs zs a.1 h) ys b

  -- ---- the values

  moment_values-front : (s n : ℕ) (es : List X) (rest : List (Of X)) → moment_values (map (keyed s n) es ++ rest) ≡ es ++ moment_values rest
  moment_values-front s n [] rest = refl
  moment_values-front s n (e ∷ es) rest = ap (λ (zs : List X). e ∷ zs) (moment_values-front s n es rest)

-- the values of moments one by one are those of the whole moments
pub moment_values-spread : (bs : List (Of (List Entry))) → moment_values (all_spread bs) ≡ flat_map entries_of bs
moment_values-spread [] = refl
moment_values-spread (b ∷ bs) =
    moment_values-front b.at.stamp b.number b.at.value (all_spread bs) ∙ ap (λ (zs : List Entry). b.at.value ++ zs) (moment_values-spread bs)

-- ---- journals

pub all_of-front : (n s : ℕ) (es : List Entry) (rest : List (At Entry)) → all_of n (map (λ (e : Entry). record { stamp = s; value = e }) es ++ rest) ≡ map (keyed s n) es ++ all_of n rest
all_of-front n s [] rest = refl
all_of-front n s (e ∷ es) rest = ap (λ (zs : List (Of Entry)). keyed s n e ∷ zs) (all_of-front n s es rest)

all_of-each : (n : ℕ) (blocks : List Block) → all_of n (flat_map each_of blocks) ≡ all_spread (all_of n blocks)
all_of-each n [] = refl
all_of-each n (b ∷ bs) =
    all_of-front n b.stamp b.value (flat_map each_of bs) ∙ ap (λ (zs : List (Of Entry)). map (keyed b.stamp n) b.value ++ zs) (all_of-each n bs)

-- stamps that rise never fall
pub never_falls : {X : Type 0} (moments : List (At X)) → Rises moments → RisesOrStays moments
never_falls [] h = tt
never_falls (x ∷ []) h = (tt, tt)
never_falls (x ∷ y ∷ rest) h = (omega (arith, h.0), never_falls (y ∷ rest) h.1)

pub all_merged-entries : (journals : List (Row (List Entry))) → All CasesRise journals → all_merged (map by_entries journals) ≡ all_spread (all_merged journals)
all_merged-entries [] h = refl
all_merged-entries (row ∷ rows) h =
    let falls : RisesOrStays row.moments = never_falls row.moments (All-head CasesRise row rows h) in
    let rest : All CasesRise rows = All-tail CasesRise row rows h in
    let own : List (Of (List Entry)) = all_of (party_number row.party) row.moments in
    ap (λ (zs : List (Of Entry)). merged zs (all_merged (map by_entries rows))) (all_of-each (party_number row.party) row.moments)
    ∙ ap (λ (zs : List (Of Entry)). merged (all_spread own) zs) (all_merged-entries rows rest)
    ∙ merged-spread own (all_merged rows) (sorted-all_of (party_number row.party) row.moments falls)
    (sorted-all_merged rows (All-weaker CasesRise (λ (r : Row (List Entry)). RisesOrStays r.moments) (λ r rises. never_falls r.moments rises) rows rest))

pub merge-entries : (journals : List (Row (List Entry))) → All CasesRise journals → moment_values (all_merged (map by_entries journals)) ≡ merge journals
merge-entries journals h =
    ap (λ (zs : List (Of Entry)). moment_values zs) (all_merged-entries journals h) ∙ moment_values-spread (all_merged journals)
