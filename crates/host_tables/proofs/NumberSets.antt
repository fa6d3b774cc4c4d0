-- Sets of numbers, one of which stands beside the tree.
use Rattle.std.proofs.Common.{◌≡◌, ◌∙◌, ℕ, Bool, true, false, cond, List, Option, Some, None, refl, sym, ap, ◌||◌}
use Rattle.std.specs.Ordering.{eq_by_cmp, is_eq, nat_cmp}
use Rattle.std.specs.Cmp.{nat_cmp_total}
use Rattle.std.specs.List.{list_any}
use Rattle.std.specs.FinSet as set
use Rattle.std.specs.FinSet.{contains-from_list, contains-insert, nat_cmp-IsAntisymmetric, same_set}
use Rattle.host_tables.specs.Numbered.{is_newest, with_newest_number}
use Rattle.host_tables.proofs.NumberMaps.{same_test, turned}

-- whether a number is in it, with the one that stands beside
pub contains-with_newest : (o : Option ℕ) (s : set.FinSet nat_cmp) (n : ℕ) → set.contains (with_newest_number o s) n ≡ (is_newest o n || set.contains s n)
contains-with_newest None s n = refl
contains-with_newest (Some k) s n = contains-insert nat_cmp_total s k n ∙ ap (λ (b : Bool). b || set.contains s n) (same_test k n)

-- the tree as a set
pub contains-settled : (keys : List ℕ) (n : ℕ) → set.contains (set.from_list {R = nat_cmp} keys) n ≡ list_any (eq_by_cmp nat_cmp n) keys
contains-settled keys n = contains-from_list nat_cmp_total keys n

either : (a b : Bool) → cond a true b ≡ (a || b)
either true b = refl
either false b = refl

-- a number that came into the tree
pub settled-added : (old new : List ℕ) (n : ℕ) → ((q : ℕ) → list_any (eq_by_cmp nat_cmp q) new ≡ cond (is_eq (nat_cmp n q)) true (list_any (eq_by_cmp nat_cmp q) old)) → set.from_list {R = nat_cmp} new ≡ set.insert (set.from_list old) n
settled-added old new n is =
    same_set nat_cmp_total nat_cmp-IsAntisymmetric _ _ (λ q.
    contains-settled new q ∙ is q
    ∙ ap (λ (b : Bool). cond b true (list_any (eq_by_cmp nat_cmp q) old)) (turned n q)
    ∙ either (eq_by_cmp nat_cmp q n) (list_any (eq_by_cmp nat_cmp q) old)
    ∙ ap (λ (b : Bool). eq_by_cmp nat_cmp q n || b) (sym (contains-settled old q))
    ∙ sym (contains-insert nat_cmp_total (set.from_list old) n q))
