-- A class of which no identifier is free, and what a write to a slot does to it.
use Rattle.std.proofs.Common.{◌≡◌, ◌≢◌, ℕ, zero, suc, ◌+◌, ◌-◌, ◌==◌, ◌<◌, ◌≤◌, cond, nat_lt, Bool, true, false, List, get_or, drop, length, set, Option, Some, None, option_map, refl, sym, ◌∙◌, subst, arith, length-set, length-take, length-drop, get_or-take, get_or-drop}
use Rattle.std.specs.List.{position, position_or_len}
use Rattle.std.proofs.lemmas.List.Sums.{fails_before_first}
use Rattle.smid_pool.specs.Pool.{Slot, Free, Open, Parked, is_free, least_free, slot_of, slots_in}
use Rattle.smid_pool.specs.Class.{IsIn, before, size_of}
use Rattle.smid_pool.specs.declared.class.Class.{Class}
use Rattle.smid_pool.specs.declared.class.Class.TheVariants as class
use Rattle.mpt_rules.specs.declared.request.Request.{Request}
use Rattle.law_flights.proofs.HostHolds.{class_within, slot_of-set}
use Rattle.law_flights.proofs.Least.{least_is, within}
use Rattle.law_flights.specs.Classes.{class_asked}

-- no identifier of the class is free
abbrev pub Full : Class → List (Slot Request) → Type 0
Full c pool = (s : ℕ) → IsIn c s → slot_of pool s ≢ Free

-- an identifier that isn't free is of its record's class
abbrev pub ClassedSlot : ℕ → Slot Request → Type 0
ClassedSlot s Free = Unit {0}
ClassedSlot s Parked = IsIn class.ScsiIo s
ClassedSlot s (Open r) = IsIn (class_asked r) s

abbrev pub Classed : List (Slot Request) → Type 0
Classed pool = (s : ℕ) → ClassedSlot s (slot_of pool s)

-- ---- the least free one

pub none_is_free : (c : Class) (pool : List (Slot Request)) → Full c pool → least_free c pool ≡ None
none_is_free c pool full = by_least (least_free c pool) refl
  where
    by_least : (o : Option ℕ) → least_free c pool ≡ o → o ≡ None
    by_least None e = refl
    by_least (Some s) e = let l = least_is c pool s e in absurd (full s l.inside l.free)

no_place : (xs : List (Slot Request)) (o : Option ℕ) → position is_free xs ≡ o → o ≡ None → (k : ℕ) → k < length xs → is_free (get_or xs k Free) ≡ false
no_place xs None e n k l = fails_before_first is_free xs k Free (by_test (nat_lt (position_or_len is_free xs) (length xs)) refl e)
  where
    by_test : (b : Bool) → nat_lt (position_or_len is_free xs) (length xs) ≡ b → cond b (Some (position_or_len is_free xs)) None ≡ None → k < position_or_len is_free xs
    by_test true t x = absurd (cc)
    by_test false t x = grind (arith, l, t)
no_place xs (Some i) e n k l = absurd (cc)

free_test : (x : Slot Request) → is_free x ≡ false → x ≢ Free
free_test Free e f = absurd (cc)
free_test Parked e f = absurd (cc)
free_test (Open r) e f = absurd (cc)

mapped_none : (g : ℕ → ℕ) (o : Option ℕ) → option_map g o ≡ None → o ≡ None
mapped_none g None e = refl
mapped_none g (Some x) e = absurd (cc)

pub all_taken : (c : Class) (pool : List (Slot Request)) → length pool ≡ 280 → least_free c pool ≡ None → Full c pool
all_taken c pool long e zero i = absurd (omega (arith, i))
all_taken c pool long e (suc s) i =
    let top = within c in
    let k = s - before c in
    let inside : k < length (slots_in c pool) = omega (arith, length-take (size_of c) (drop (before c) pool), length-drop (before c) pool, i, top, long) in
    let small : k < size_of c = omega (arith, i) in
    let at : get_or (slots_in c pool) k Free ≡ get_or pool s Free = grind (arith, get_or-take, get_or-drop, i) in
    free_test (slot_of pool (suc s)) (subst (λ x. is_free x ≡ false) at (no_place (slots_in c pool) (position is_free (slots_in c pool)) refl (mapped_none (λ place. before c + place + 1) (position is_free (slots_in c pool)) e) k inside))

-- ---- a write to a slot

module _ (pool : List (Slot Request)) (long : length pool ≡ 280) (c : Class) (s : ℕ) (i : IsIn c s) where
  low : 1 ≤ s
  low = (class_within c s i).0

  inside : s - 1 < length pool
  inside = let b = class_within c s i in omega (arith, b, long)

  read : (x : Slot Request) (j : ℕ) → slot_of (set pool (s - 1) x) j ≡ cond (j == s) x (slot_of pool j)
  read x j = slot_of-set pool s j x low inside

  pub classed_set : (x : Slot Request) → ClassedSlot s x → Classed pool → Classed (set pool (s - 1) x)
  classed_set x y k j = by_place (j == s) refl (read x j)
    where
      by_place : (b : Bool) → (j == s) ≡ b → slot_of (set pool (s - 1) x) j ≡ cond b x (slot_of pool j) → ClassedSlot j (slot_of (set pool (s - 1) x) j)
      by_place true t e = let same : j ≡ s = grind (arith, t) in subst (ClassedSlot j) (sym e) (subst (λ n. ClassedSlot n x) (sym same) y)
      by_place false t e = subst (ClassedSlot j) (sym e) (k j)

  -- a slot that is taken leaves a full class full
  pub full_taken : (d : Class) (x : Slot Request) → x ≢ Free → Full d pool → Full d (set pool (s - 1) x)
  full_taken d x n full j in_class f = by_place (j == s) (read x j)
    where
      by_place : (b : Bool) → slot_of (set pool (s - 1) x) j ≡ cond b x (slot_of pool j) → ⊥
      by_place true e = n (sym e ∙ f)
      by_place false e = full j in_class (sym e ∙ f)

  -- one of another class that is freed too
  pub full_freed : (d : Class) (x : Slot Request) → ((j : ℕ) → IsIn c j → IsIn d j → ⊥) → Full d pool → Full d (set pool (s - 1) x)
  full_freed d x apart full j in_class f = by_place (j == s) refl (read x j)
    where
      by_place : (b : Bool) → (j == s) ≡ b → slot_of (set pool (s - 1) x) j ≡ cond b x (slot_of pool j) → ⊥
      by_place true t e = let same : j ≡ s = grind (arith, t) in apart j (subst (IsIn c) (sym same) i) in_class
      by_place false t e = full j in_class (sym e ∙ f)

-- one that is freed and given on at once
module _ (pool : List (Slot Request)) (long : length pool ≡ 280) (c : Class) (s : ℕ) (i : IsIn c s) where
  pub full_given : (d : Class) (x : Slot Request) → x ≢ Free → Full d pool → Full d (set (set pool (s - 1) Free) (s - 1) x)
  full_given d x n full j in_class f = by_place (j == s) (read (set pool (s - 1) Free) (length-set pool (s - 1) Free ∙ long) c s i x j) (read pool long c s i Free j)
    where
      by_place : (b : Bool) → slot_of (set (set pool (s - 1) Free) (s - 1) x) j ≡ cond b x (slot_of (set pool (s - 1) Free) j) → slot_of (set pool (s - 1) Free) j ≡ cond b Free (slot_of pool j) → ⊥
      by_place true e g = n (sym e ∙ f)
      by_place false e g = full j in_class (sym g ∙ (sym e ∙ f))

-- the classes are apart
pub io_high : (j : ℕ) → IsIn class.ScsiIo j → IsIn class.High j → ⊥
io_high j a b = omega (arith, a, b)

pub io_internal : (j : ℕ) → IsIn class.ScsiIo j → IsIn class.Internal j → ⊥
io_internal j a b = omega (arith, a, b)

pub high_internal : (j : ℕ) → IsIn class.High j → IsIn class.Internal j → ⊥
high_internal j a b = omega (arith, a, b)

pub internal_high : (j : ℕ) → IsIn class.Internal j → IsIn class.High j → ⊥
internal_high j a b = omega (arith, a, b)
