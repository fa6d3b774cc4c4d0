-- The fabric has no more tasks than there are identifiers, so what a target reset counts fits its field.
use Rattle.std.proofs.Common.{◌≡◌, ℕ, zero, suc, ◌+◌, ◌≤◌, not, Bool, true, false, if◌then◌else◌, List, [], ◌∷◌, length, refl, arith}
use Rattle.std.specs.List.{filter}
use Rattle.mpt_rules.specs.declared.task.Task.{Task}
use Rattle.mpt_rules.specs.Fabric.Tasks.{has_tag, is_for, tasks_for}
use Rattle.mpt_rules.specs.World.Counts.{one_if}
use Rattle.mpt_rules.specs.World.FabricCounts.{task_count}
use Rattle.mpt_rules.proofs.FabricCounts.{task_count-cons, task_count-nil}

-- each task has a tag from 1 to m
abbrev pub Within : ℕ → List Task → Type 0
Within m [] = Unit {0}
Within m (x ∷ xs) = (1 ≤ x.tag) × (x.tag ≤ m) × Within m xs

without : ℕ → List Task → List Task
without s xs = filter (λ (x : Task). not (has_tag s x)) xs

shorter : (s : ℕ) (xs : List Task) → length xs ≡ task_count s xs + length (without s xs)
unfolding without
shorter s [] = let z = task_count-nil s in omega (arith, z)
shorter s (x ∷ xs) = by_test (has_tag s x) (shorter s xs) (task_count-cons s x xs)
  where
    by_test : (b : Bool) → length xs ≡ task_count s xs + length (filter (λ (x : Task). not (has_tag s x)) xs) → task_count s (x ∷ xs) ≡ one_if b + task_count s xs
        → suc (length xs) ≡ task_count s (x ∷ xs) + length (if not b then x ∷ filter (λ (x : Task). not (has_tag s x)) xs else filter (λ (x : Task). not (has_tag s x)) xs)
    by_test true h c = omega (arith, h, c)
    by_test false h c = omega (arith, h, c)

fewer : (s j : ℕ) (xs : List Task) → task_count j (without s xs) ≤ task_count j xs
unfolding without
fewer s j [] = omega arith
fewer s j (x ∷ xs) = by_test (has_tag s x) (fewer s j xs) (task_count-cons j x xs)
  where
    by_test : (b : Bool) → task_count j (filter (λ (x : Task). not (has_tag s x)) xs) ≤ task_count j xs → task_count j (x ∷ xs) ≡ one_if (has_tag j x) + task_count j xs
        → task_count j (if not b then x ∷ filter (λ (x : Task). not (has_tag s x)) xs else filter (λ (x : Task). not (has_tag s x)) xs) ≤ task_count j (x ∷ xs)
    by_test true h c = omega (arith, h, c)
    by_test false h c = let d = task_count-cons j x (filter (λ (x : Task). not (has_tag s x)) xs) in omega (arith, h, c, d)

range_less : (m : ℕ) (xs : List Task) → Within (suc m) xs → Within m (without (suc m) xs)
unfolding without
range_less m [] h = tt
range_less m (x ∷ xs) h = by_test (has_tag (suc m) x) refl (range_less m xs h.2)
  where
    by_test : (b : Bool) → has_tag (suc m) x ≡ b → Within m (filter (λ (x : Task). not (has_tag (suc m) x)) xs)
        → Within m (if not b then x ∷ filter (λ (x : Task). not (has_tag (suc m) x)) xs else filter (λ (x : Task). not (has_tag (suc m) x)) xs)
    by_test true t r = r
    by_test false t r = let h0 = h.0 in let h1 = h.1 in (h0, grind (arith, t, h1), r)

none_within : (xs : List Task) → Within 0 xs → length xs ≤ 0
none_within [] h = omega arith
none_within (x ∷ xs) h = let h0 = h.0 in let h1 = h.1 in absurd (omega (arith, h0, h1))

pub pigeons : (m : ℕ) (xs : List Task) → Within m xs → ((s : ℕ) → 1 ≤ s → s ≤ m → task_count s xs ≤ 1) → length xs ≤ m
pigeons zero xs h c = none_within xs h
pigeons (suc m) xs h c =
    let ih = pigeons m (without (suc m) xs) (range_less m xs h) (λ j p q. let f = fewer (suc m) j xs in let g = c j p (omega (arith, q)) in omega (arith, f, g)) in
    let l = shorter (suc m) xs in
    let o = c (suc m) (omega arith) (omega arith) in
    omega (arith, ih, l, o)

-- those of one address are no more than all
pub some_of_all : (address : ℕ) (xs : List Task) → length (tasks_for address xs) ≤ length xs
some_of_all address [] = omega arith
some_of_all address (x ∷ xs) = by_test (is_for address x) (some_of_all address xs)
  where
    by_test : (b : Bool) → length (filter (is_for address) xs) ≤ length xs → length (if b then x ∷ filter (is_for address) xs else filter (is_for address) xs) ≤ suc (length xs)
    by_test true l = omega (arith, l)
    by_test false l = omega (arith, l)
