-- A list of moves played on a controller: what it says, and the controller after it.
use Rattle.std.specs.Prelude.{◌≡◌, ℕ, ◌+◌, ◌<◌, Bool, List, [], ◌∷◌, ◌++◌, length, map, take, Option, Some, None}
use Rattle.mpt_trace.specs.declared.entry.Entry.{Entry}
use Rattle.mpt_trace.specs.declared.item.Out.{Out}
use Rattle.mpt_trace.specs.declared.item.Up.{Up}
use Rattle.mpt_rules.specs.Ioc.Parts.{Ioc}
use Rattle.mpt_rules.specs.Ioc.Takes.{front_out, front_up_on, out_sent, steps_high, steps_normal, takes_back, takes_down, up_sent_on}
use Rattle.mpt_rules.specs.Outcome.{Called, Happening}
use Rattle.ioc_core.specs.Seen.{IocSeen}
use Rattle.ioc_core.specs.declared.moves.IocMove.{IocMove}
use Rattle.ioc_core.specs.declared.moves.IocMove.TheVariants as move
use Rattle.ioc_core.specs.declared.moves.IocSaid.{IocSaid}
use Rattle.ioc_core.specs.declared.moves.IocSaid.TheVariants as said

-- the controller after a move, what it told, and what it said
pub record IocMoved : Type 0 where
  pub part : Ioc
  pub told : List Entry
  pub said : List IocSaid

-- a move that says nothing
abbrev pub silent_move : Happening Ioc → IocMoved
silent_move o = record { part = o.part; told = o.entries; said = [] }

-- a work step
abbrev pub step_move : Called Ioc Bool → IocMoved
step_move c = record { part = c.part; told = c.told; said = [] }

-- the front of a reply queue is put, if it is there and doesn't wait for a frame
abbrev pub puts_up : Ioc → ℕ → Option Up → IocMoved
puts_up ioc queue None = record { part = ioc; told = []; said = [] }
puts_up ioc queue (Some up) = record { part = up_sent_on ioc queue; told = []; said = said.Up up ∷ [] }

-- the front of the lane out is put, if there is one
abbrev pub puts_out : Ioc → Option Out → IocMoved
puts_out ioc None = record { part = ioc; told = []; said = [] }
puts_out ioc (Some out) = record { part = out_sent ioc; told = []; said = said.Out out ∷ [] }

-- one move is one call
abbrev pub moved : Ioc → IocMove → IocMoved
moved ioc (move.Down item) = silent_move (takes_down ioc item)
moved ioc (move.Back item) = silent_move (takes_back ioc item)
moved ioc move.High = step_move (steps_high ioc)
moved ioc move.Normal = step_move (steps_normal ioc)
moved ioc move.PutUp = puts_up ioc 0 (front_up_on ioc 0)
moved ioc (move.PutUpOn queue) = puts_up ioc queue (front_up_on ioc queue)
moved ioc move.PutOut = puts_out ioc (front_out ioc)

-- the controller after the moves
unfoldable pub after_moves : Ioc → List IocMove → Ioc
after_moves ioc [] = ioc
after_moves ioc (m ∷ moves) = after_moves (moved ioc m).part moves

-- what the moves tell
unfoldable pub told_by : Ioc → List IocMove → List Entry
told_by ioc [] = []
told_by ioc (m ∷ moves) = (moved ioc m).told ++ told_by (moved ioc m).part moves

-- what a move says, with its place
abbrev pub placed : ℕ → List IocSaid → List (ℕ × IocSaid)
placed place items = map (λ (s : IocSaid). (place, s)) items

-- what they say, each with the place of its move, from this place on
unfoldable pub talk_from : ℕ → Ioc → List IocMove → List (ℕ × IocSaid)
talk_from place ioc [] = []
talk_from place ioc (m ∷ moves) = placed place (moved ioc m).said ++ talk_from (place + 1) (moved ioc m).part moves

-- some moves from the front were played, and no other
pub record HasPlayed (before after : IocSeen) (moves : List IocMove) : Type 0 where
  pub count : ℕ
  pub within : count < length moves
  pub part : after.part ≡ after_moves before.part (take count moves)
  pub told : after.told ≡ before.told ++ told_by before.part (take count moves)
