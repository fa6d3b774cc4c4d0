-- A map from the numbers of submissions and a set of them, to which one entry comes without memory where there is room.
use Rattle.std.specs.Prelude.{ℕ, ◌==◌, Bool, false, if◌then◌else◌, Option, Some, None, refl}
use Rattle.std.specs.Ordering.{nat_cmp}
use Rattle.std.specs.FinMap as map
use Rattle.std.specs.FinSet as set
use Rattle.std.specs.Coded.{Coded, code_by, coded×, coded_ℕ, coded_bool}

-- the map, and whether the next entry takes no memory
pub record Numbered (V : Type 0) : Type 0 where
  pub map : map.FinMap nat_cmp V
  pub has_room : Bool

module _ {V : Type 0} where
  -- it is stored so
  abbrev pub numbered_code : Coded V → Coded (Numbered V)
  numbered_code code =
      code_by (map.FinMap nat_cmp V × Bool) (coded× (map.code coded_ℕ code) coded_bool) (λ n. (n.map, n.has_room)) (λ p. record { map = p.0; has_room = p.1 }) (λ _. refl)

  -- the map with the newest entry, which stands beside it
  abbrev pub with_newest : Option (ℕ × V) → map.FinMap nat_cmp V → map.FinMap nat_cmp V
  with_newest None m = m
  with_newest (Some e) m = map.insert m e.0 e.1

  -- what the newest entry has for a number
  abbrev pub newest_at : Option (ℕ × V) → ℕ → Option V
  newest_at None n = None
  newest_at (Some e) n = if e.0 == n then Some e.1 else None

  -- the newest entry where it is another number's
  abbrev pub newest_without : Option (ℕ × V) → ℕ → Option (ℕ × V)
  newest_without None n = None
  newest_without (Some e) n = if e.0 == n then None else Some e

-- ---- the set

-- the set, and whether the next number takes no memory
pub record NumberedSet : Type 0 where
  pub set : set.FinSet nat_cmp
  pub has_room : Bool

-- it is stored so
abbrev pub numbered_set_code : Coded NumberedSet
numbered_set_code =
    code_by (set.FinSet nat_cmp × Bool) (coded× (set.code coded_ℕ) coded_bool) (λ n. (n.set, n.has_room)) (λ p. record { set = p.0; has_room = p.1 }) (λ _. refl)

-- the set with the newest number, which stands beside it
abbrev pub with_newest_number : Option ℕ → set.FinSet nat_cmp → set.FinSet nat_cmp
with_newest_number None s = s
with_newest_number (Some n) s = set.insert s n

-- whether the newest number is this one
abbrev pub is_newest : Option ℕ → ℕ → Bool
is_newest None n = false
is_newest (Some k) n = k == n
