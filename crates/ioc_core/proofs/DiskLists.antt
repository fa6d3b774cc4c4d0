-- What stays true of the disks as one comes, waits, is bound or goes.
use Rattle.std.proofs.Common.{◌≡◌, ◌≢◌, ℕ, ◌+◌, ◌-◌, ◌≤◌, Bool, true, false, not, ◌||◌, cond, ltb, nat_le, List, [], ◌∷◌, ◌++◌, drop, filter, length, get_or, set, replicate, count_by, Option, Some, None, refl, sym, ap, ◌∙◌, inl, inr, subst, arith}
use Rattle.std.specs.List.{list_all, list_any, slice_get}
use Rattle.std.proofs.lemmas.Bool.{cases_eq, cases_lt}
use Rattle.std.proofs.lemmas.Bool.Decides.{nat_tests}
use Rattle.std.proofs.lemmas.List.{get_or-replicate, get_or_past, get_or-set_same, get_or-set_other, length-replicate, length-set}
use Rattle.std.proofs.lemmas.List.Folds.{list_all-append, list_any-append}
use Rattle.std.proofs.lemmas.List.Sums.{sum_by-cons, sum_by_push}
use Rattle.mpt_rules.specs.declared.binding.Binding.{Binding}
use Rattle.mpt_rules.specs.declared.binding.Binding.TheVariants as binding
use Rattle.mpt_rules.specs.declared.binding.Waiting.{Waiting}
use Rattle.mpt_rules.specs.Ioc.Bindings.{waits_at}
use Rattle.ioc_tables.specs.Bindings.{after_bind, after_leaving, binding_at, binding_for, handle_for, with_binding_at}
use Rattle.ioc_tables.specs.CommandCounts.{one_if}
use Rattle.ioc_tables.proofs.Counts.{has_counted}
use Rattle.ioc_tables.proofs.Handled.{absent_after_bind, absent_after_leaving, stays_absent}
use Rattle.ioc_tables.proofs.Numbers.{both_hold, eqb_itself, eqb_same}
use Rattle.ioc_core.specs.Disks.{AreDisks, is_placed, waits_placed}

-- ---- lists

-- one of two lists has it
either_has : (a b : Bool) → (a || b) ≡ true → (b ≡ false → a ≡ true)
either_has true b is none = refl
either_has false b is none = absurd (let e = sym none ∙ is in cc)

count-cons : (test : Waiting → Bool) (x : Waiting) (xs : List Waiting) → count_by test (x ∷ xs) ≡ one_if (test x) + count_by test xs
count-cons test x xs = sum_by-cons (λ y. cond (test y) 1 0) x xs

count-push : (test : Waiting → Bool) (xs : List Waiting) (x : Waiting) → count_by test (xs ++ x ∷ []) ≡ count_by test xs + one_if (test x)
count-push test xs x = sum_by_push (λ y. cond (test y) 1 0) xs x

-- a test that none passes counts none
none_counted : (test : Waiting → Bool) (xs : List Waiting) → list_any test xs ≡ false → count_by test xs ≡ 0
none_counted test xs none = let e = has_counted test xs ∙ none in grind (arith, nat_tests, e)

-- and one that one passes at least one
some_counted : (test : Waiting → Bool) (xs : List Waiting) → list_any test xs ≡ true → 1 ≤ count_by test xs
some_counted test xs some = let e = has_counted test xs ∙ some in grind (arith, nat_tests, e)

counted_none : (test : Waiting → Bool) (xs : List Waiting) → count_by test xs ≡ 0 → list_any test xs ≡ false
counted_none test xs zero_is = sym (has_counted test xs) ∙ ap (ltb 0) zero_is

-- what is left out isn't there
filtered_any : (q test : Waiting → Bool) (xs : List Waiting) → list_any q (filter (λ x. not (test x)) xs) ≡ true → list_any q xs ≡ true
filtered_any q test [] is = is
filtered_any q test (x ∷ xs) is = by_test (test x) is (filtered_any q test xs)
  where
    with_head : (a b c : Bool) → (a || b) ≡ true → (b ≡ true → c ≡ true) → (a || c) ≡ true
    with_head true b c is then = refl
    with_head false b c is then = then is

    behind : (a b : Bool) → b ≡ true → (a || b) ≡ true
    behind true b is = refl
    behind false b is = is

    by_test : (b : Bool) → list_any q (cond (not b) (x ∷ filter (λ x. not (test x)) xs) (filter (λ x. not (test x)) xs)) ≡ true
        → (list_any q (filter (λ x. not (test x)) xs) ≡ true → list_any q xs ≡ true) → (q x || list_any q xs) ≡ true
    by_test true e rest = behind (q x) (list_any q xs) (rest e)
    by_test false e rest = with_head (q x) (list_any q (filter (λ x. not (test x)) xs)) (list_any q xs) e rest

filtered_count : (q test : Waiting → Bool) (xs : List Waiting) → count_by q (filter (λ x. not (test x)) xs) ≤ count_by q xs
filtered_count q test [] = omega arith
filtered_count q test (x ∷ xs) = by_test (test x) (filtered_count q test xs) (count-cons q x xs)
  where
    by_test : (b : Bool) → count_by q (filter (λ x. not (test x)) xs) ≤ count_by q xs → count_by q (x ∷ xs) ≡ one_if (q x) + count_by q xs
        → count_by q (cond (not b) (x ∷ filter (λ x. not (test x)) xs) (filter (λ x. not (test x)) xs)) ≤ count_by q (x ∷ xs)
    by_test true h c = omega (arith, h, c)
    by_test false h c = let d = count-cons q x (filter (λ x. not (test x)) xs) in omega (arith, h, c, d)

filtered_all : (p test : Waiting → Bool) (xs : List Waiting) → list_all p xs ≡ true → list_all p (filter (λ x. not (test x)) xs) ≡ true
filtered_all p test [] all = refl
filtered_all p test (x ∷ xs) all = let each = both_hold (p x) (list_all p xs) all in by_test (test x) each.0 (filtered_all p test xs each.1)
  where
    by_test : (b : Bool) → p x ≡ true → list_all p (filter (λ x. not (test x)) xs) ≡ true
        → list_all p (cond (not b) (x ∷ filter (λ x. not (test x)) xs) (filter (λ x. not (test x)) xs)) ≡ true
    by_test true is rest = rest
    by_test false is rest = rw (is, rest) refl

-- an address at which the disk waits is the disk's
its_address : (address : ℕ) (disk : Waiting) → waits_at address disk ≡ true → disk.address ≡ address
its_address address disk is = eqb_same disk.address address is

-- ---- bindings

abbrev ArePlaced : List Binding → Type 0
ArePlaced bindings = (handle : ℕ) → is_placed (binding_at bindings handle) ≡ true

placed_if : (t : Bool) (b : Binding) → is_placed b ≡ true → is_placed (cond t b binding.Unbound) ≡ true
placed_if true b is = is
placed_if false b is = refl

placed_within : (bindings : List Binding) → ArePlaced bindings → (k : ℕ) → is_placed (get_or bindings k binding.Unbound) ≡ true
placed_within bindings placed k =
    let ten : nat_le 9 (k + 9) ≡ true = grind (arith, nat_tests) in
    let back : k + 9 - 9 ≡ k = omega arith in
    subst (λ (j : ℕ). is_placed (get_or bindings j binding.Unbound) ≡ true) back
    (subst (λ (t : Bool). is_placed (cond t (get_or bindings (k + 9 - 9) binding.Unbound) binding.Unbound) ≡ true) ten (placed (k + 9)))

placed-set : (bindings : List Binding) (handle : ℕ) (b : Binding) → is_placed b ≡ true → ArePlaced bindings → ArePlaced (with_binding_at handle b bindings)
placed-set bindings handle b is placed h = placed_if (nat_le 9 h) (get_or (set bindings (handle - 9) b) (h - 9) binding.Unbound) (at (h - 9))
  where
    at : (k : ℕ) → is_placed (get_or (set bindings (handle - 9) b) k binding.Unbound) ≡ true
    at k =
        elim (cases_eq k (handle - 9)) [
          | inr elsewhere ↦ ap is_placed (get_or-set_other bindings (handle - 9) k b binding.Unbound elsewhere) ∙ placed_within bindings placed k
          | inl same ↦
              elim (cases_lt k (length bindings)) [
                | inl before ↦ rw same (ap is_placed (get_or-set_same bindings (handle - 9) b binding.Unbound (rw same at before)) ∙ is)
                | inr past ↦ ap is_placed (get_or_past (set bindings (handle - 9) b) k binding.Unbound (rw (length-set bindings (handle - 9) b) past))
              ]
        ]

placed-bind : (bindings : List Binding) (disk : Waiting) (o : Option ℕ) → waits_placed disk ≡ true → ArePlaced bindings → ArePlaced (after_bind disk o bindings)
placed-bind bindings disk None is placed = placed
placed-bind bindings disk (Some handle) is placed = placed-set bindings handle (binding_for disk) is placed

placed-leaving : (bindings : List Binding) (handle : ℕ) (b : Binding) → ArePlaced bindings → ArePlaced (after_leaving handle b bindings)
placed-leaving bindings handle binding.Unbound placed = placed
placed-leaving bindings handle (binding.Present address plug expander phy) placed = placed-set bindings handle (binding.Gone address) refl placed
placed-leaving bindings handle (binding.Gone address) placed = placed

-- ---- no disk

pub AreDisks-fresh : AreDisks (replicate 64 binding.Unbound) []
AreDisks-fresh = record {
  unbound = λ address is. absurd (cc);
  once = λ address. omega arith;
  bound_placed = λ handle. placed_if (nat_le 9 handle) (get_or (replicate 64 binding.Unbound) (handle - 9) binding.Unbound) (ap is_placed (all_unbound (handle - 9)));
  waiting_placed = refl;
}
  where
    all_unbound : (k : ℕ) → get_or (replicate 64 binding.Unbound) k binding.Unbound ≡ binding.Unbound
    all_unbound k =
        elim (cases_lt k 64) [
          | inl before ↦ get_or-replicate 64 k binding.Unbound binding.Unbound before
          | inr past ↦ get_or_past (replicate 64 binding.Unbound) k binding.Unbound (rw (length-replicate {A = Binding} 64 binding.Unbound) past)
        ]

module _ (bindings : List Binding) (waiting : List Waiting) (are : AreDisks bindings waiting) where
  -- a disk waits
  pub AreDisks-wait : (disk : Waiting) → handle_for disk.address bindings ≡ None → list_any (waits_at disk.address) waiting ≡ false → waits_placed disk ≡ true → AreDisks bindings (waiting ++ disk ∷ [])
  AreDisks-wait disk absent new placed = record {
    unbound = λ address is. by_waits address (list_any (waits_at address) waiting) refl (sym (list_any-append (waits_at address) waiting (disk ∷ [])) ∙ is);
    once = λ address. by_address address (waits_at address disk) refl;
    bound_placed = are.bound_placed;
    waiting_placed = list_all-append waits_placed waiting (disk ∷ []) ∙ rw (are.waiting_placed, placed) refl;
  }
    where
      last : (b : Bool) → (b || false) ≡ true → b ≡ true
      last true is = refl
      last false is = is

      by_waits : (address : ℕ) (b : Bool) → list_any (waits_at address) waiting ≡ b → (b || (waits_at address disk || false)) ≡ true → handle_for address bindings ≡ None
      by_waits address true there is = are.unbound address there
      by_waits address false there is = subst (λ (a : ℕ). handle_for a bindings ≡ None) (its_address address disk (last (waits_at address disk) is)) absent

      by_address : (address : ℕ) (b : Bool) → waits_at address disk ≡ b → count_by (waits_at address) (waiting ++ disk ∷ []) ≤ 1
      by_address address true is =
          let same : disk.address ≡ address = its_address address disk is in
          let none : count_by (waits_at address) waiting ≡ 0 = none_counted (waits_at address) waiting (subst (λ (a : ℕ). list_any (waits_at a) waiting ≡ false) same new) in
          let c = count-push (waits_at address) waiting disk in
          let one : one_if (waits_at address disk) ≡ 1 = rw is refl in
          omega (arith, none, c, one)
      by_address address false is =
          let c = count-push (waits_at address) waiting disk in
          let none : one_if (waits_at address disk) ≡ 0 = rw is refl in
          let few = are.once address in
          omega (arith, c, none, few)

  -- an address at which one waits isn't that of a disk that doesn't
  another : (disk : Waiting) (address : ℕ) (others : List Waiting) → list_any (waits_at disk.address) others ≡ false → list_any (waits_at address) others ≡ true → address ≢ disk.address
  another disk address others new is = λ same. absurd (let e = sym new ∙ subst (λ (a : ℕ). list_any (waits_at a) others ≡ true) same is in cc)

  -- a disk is bound that doesn't wait
  pub AreDisks-bind : (disk : Waiting) (o : Option ℕ) → list_any (waits_at disk.address) waiting ≡ false → waits_placed disk ≡ true → AreDisks (after_bind disk o bindings) waiting
  AreDisks-bind disk o new placed = record {
    unbound = λ address is. absent_after_bind bindings address disk o (are.unbound address is) (another disk address waiting new is);
    once = are.once;
    bound_placed = placed-bind bindings disk o placed are.bound_placed;
    waiting_placed = are.waiting_placed;
  }

  -- a disk goes
  pub AreDisks-leaving : (handle : ℕ) (b : Binding) → AreDisks (after_leaving handle b bindings) waiting
  AreDisks-leaving handle b = record {
    unbound = λ address is. absent_after_leaving bindings address handle b (are.unbound address is);
    once = are.once;
    bound_placed = placed-leaving bindings handle b are.bound_placed;
    waiting_placed = are.waiting_placed;
  }

  -- a handle is unbound
  pub AreDisks-unbind : (handle : ℕ) → AreDisks (with_binding_at handle binding.Unbound bindings) waiting
  AreDisks-unbind handle = record {
    unbound = λ address is. stays_absent bindings address handle binding.Unbound (are.unbound address is) refl;
    once = are.once;
    bound_placed = placed-set bindings handle binding.Unbound refl are.bound_placed;
    waiting_placed = are.waiting_placed;
  }

  -- a disk doesn't wait any more
  pub AreDisks-stop : (address : ℕ) → AreDisks bindings (filter (λ disk. not (waits_at address disk)) waiting)
  AreDisks-stop address = record {
    unbound = λ a is. are.unbound a (filtered_any (waits_at a) (waits_at address) waiting is);
    once = λ a. let f = filtered_count (waits_at a) (waits_at address) waiting in let o = are.once a in omega (arith, f, o);
    bound_placed = are.bound_placed;
    waiting_placed = filtered_all waits_placed (waits_at address) waiting are.waiting_placed;
  }

-- the disk that waits longest isn't there a second time
pub record IsFirst (bindings : List Binding) (first : Waiting) (others : List Waiting) : Type 0 where
  pub unbound : handle_for first.address bindings ≡ None
  pub new : list_any (waits_at first.address) others ≡ false
  pub placed : waits_placed first ≡ true
  pub others_are : AreDisks bindings others

first_of : (bindings : List Binding) (first : Waiting) (others : List Waiting) → AreDisks bindings (first ∷ others) → IsFirst bindings first others
first_of bindings first others are =
    let here : waits_at first.address first ≡ true = eqb_itself first.address in
    let there : (waits_at first.address first || list_any (waits_at first.address) others) ≡ true = rw here refl in
    let one : one_if (waits_at first.address first) ≡ 1 = rw here refl in
    let few = are.once first.address in
    let c = count-cons (waits_at first.address) first others in
    let none : count_by (waits_at first.address) others ≡ 0 = omega (arith, one, few, c) in
    let each = both_hold (waits_placed first) (list_all waits_placed others) are.waiting_placed in
    record {
      unbound = are.unbound first.address there;
      new = counted_none (waits_at first.address) others none;
      placed = each.0;
      others_are = record {
        unbound = λ address is. are.unbound address (behind (waits_at address first) (list_any (waits_at address) others) is);
        once = λ address. let o = are.once address in let d = count-cons (waits_at address) first others in omega (arith, o, d);
        bound_placed = are.bound_placed;
        waiting_placed = each.1;
      };
    }
  where
    behind : (a b : Bool) → b ≡ true → (a || b) ≡ true
    behind true b is = refl
    behind false b is = is

pub first_waits : (bindings : List Binding) (waiting : List Waiting) (first : Waiting) → AreDisks bindings waiting → slice_get waiting 0 ≡ Some first → IsFirst bindings first (drop 1 waiting)
first_waits bindings [] first are is = absurd (cc)
first_waits bindings (x ∷ xs) first are is = let same : x ≡ first = cc in subst (λ (y : Waiting). IsFirst bindings y xs) same (first_of bindings x xs are)

-- a handle is unbound, and the disk that waits longest is bound
pub AreDisks-unbind_for : (bindings : List Binding) (waiting : List Waiting) (first : Waiting) (handle : ℕ) (o : Option ℕ) → AreDisks bindings waiting → slice_get waiting 0 ≡ Some first
    → AreDisks (after_bind first o (with_binding_at handle binding.Unbound bindings)) (drop 1 waiting)
AreDisks-unbind_for bindings waiting first handle o are is =
    let f = first_waits bindings waiting first are is in
    AreDisks-bind (with_binding_at handle binding.Unbound bindings) (drop 1 waiting) (AreDisks-unbind bindings (drop 1 waiting) f.others_are handle) first o f.new f.placed
