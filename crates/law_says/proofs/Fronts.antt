-- The front of a lane up: the line begins with what it says, and its queue is one of those that there are.
use Rattle.std.proofs.Common.{◌≡◌, ℕ, ◌<◌, ◌≤◌, nat_lt, Bool, true, false, List, [], ◌∷◌, ◌++◌, map, length, get_or, Option, Some, None, refl, ap, arith}
use Rattle.std.proofs.lemmas.List.{get_or_past}
use Rattle.mpt_trace.specs.declared.item.Up.{Up}
use Rattle.mpt_rules.specs.declared.said.Said.{Said}
use Rattle.mpt_rules.specs.declared.why.Why.{Why}
use Rattle.mpt_rules.specs.Host.Handshakes.{where_true}
use Rattle.mpt_rules.specs.Host.Strange.{first_some}
use Rattle.mpt_rules.specs.World.Lines.{said_of, up_line}
use Rattle.mpt_rules.specs.World.State.{World, queues_of, up_on}

-- what follows the front in the line
abbrev pub line_behind : World → ℕ → List Up → List Said
line_behind w queue rest = map said_of rest ++ get_or w.ioc.up queue []

pub line_front : (w : World) (queue : ℕ) (x : Up) (rest : List Up) → up_on w queue ≡ x ∷ rest → up_line w queue ≡ said_of x ∷ line_behind w queue rest
line_front w queue x rest e = ap (λ xs. map said_of xs ++ get_or w.ioc.up queue []) e

pub is_queue : (w : World) (queue : ℕ) (x : Up) (rest : List Up) → up_on w queue ≡ x ∷ rest → queue < queues_of w
is_queue w queue x rest e = by_place (nat_lt queue (length w.up)) refl
  where
    by_place : (b : Bool) → nat_lt queue (length w.up) ≡ b → queue < length w.up
    by_place true t = grind (arith, t)
    by_place false t = let far : length w.up ≤ queue = grind (arith, t) in let z = get_or_past w.up queue [] far in absurd (cc)

-- ---- whys

pub no_why : (b : Bool) (y : Why) → b ≡ false → where_true b y ≡ None
no_why b y e = ap (λ c. where_true c y) e

-- of some that are looked at in their order none holds where the first doesn't and none of the rest does
pub none_first : (y : Option Why) (rest : List (Option Why)) → y ≡ None → first_some rest ≡ None → first_some (y ∷ rest) ≡ None
none_first None rest e h = h
none_first (Some y) rest e h = absurd (cc)

pub clash : {X : Type 0} (b : Bool) → b ≡ true → b ≡ false → X
clash true x y = absurd (cc)
clash false x y = absurd (cc)
