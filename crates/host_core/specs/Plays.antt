-- A list of moves played on a host: what it says, and the host after it.
use Rattle.std.specs.Prelude.{◌≡◌, ℕ, ◌+◌, ◌<◌, nat_lt, List, [], ◌∷◌, ◌++◌, length, map, take, slice_get, Option, Some, None, option_map, option_to_list, if◌then◌else◌}
use Rattle.std.specs.List.{flat_map}
use Rattle.mpt_trace.specs.declared.entry.Entry.{Entry}
use Rattle.mpt_trace.specs.declared.item.Down.{Down}
use Rattle.mpt_rules.specs.declared.why.Why.{Why}
use Rattle.mpt_rules.specs.Host.Parts.{Host}
use Rattle.mpt_rules.specs.Host.Takes.{down_sent, takes_up}
use Rattle.mpt_rules.specs.Outcome.{Called}
use Rattle.host_core.specs.Asking.{asks}
use Rattle.host_core.specs.Driver.{Driver}
use Rattle.host_core.specs.declared.moves.HostMove.{HostMove}
use Rattle.host_core.specs.declared.moves.HostMove.TheVariants as move
use Rattle.host_core.specs.declared.moves.HostSaid.{HostSaid}
use Rattle.host_core.specs.declared.moves.HostSaid.TheVariants as said
use Rattle.host_core.specs.declared.talk.Saying.{Saying}

-- ---- one move

-- a move that is passed over
abbrev pub passed_over : Host → Called Host (Option HostSaid)
passed_over host = record { part = host; told = []; answer = None }

-- the refusal of what was asked is said
abbrev pub asked_move : Called Host (Option Entry) → Called Host (Option HostSaid)
asked_move called = record { part = called.part; told = called.told; answer = option_map said.Told called.answer }

-- why an item isn't taken is said
abbrev pub taken_move : Called Host (Option Why) → Called Host (Option HostSaid)
taken_move called = record { part = called.part; told = called.told; answer = option_map said.Strange called.answer }

-- the next item is put on the lane down, if there is one
abbrev pub puts_down : Host → Option Down → Called Host (Option HostSaid)
puts_down host None = passed_over host
puts_down host (Some item) = record { part = down_sent host; told = []; answer = Some (said.Down item) }

-- one move is one call: the host after it, the entries that it tells, and what else it says
abbrev pub moved : Host → HostMove → Called Host (Option HostSaid)
moved host (move.Input input) = asked_move (asks host input)
moved host (move.Up item) = taken_move (takes_up host 0 item)
moved host (move.UpOn queue item) = if nat_lt queue (length host.indices) then taken_move (takes_up host queue item) else passed_over host
moved host move.PutDown = puts_down host (slice_get host.out 0)

-- ---- a list of moves

-- the host after the moves
unfoldable pub after_moves : Host → List HostMove → Host
after_moves host [] = host
after_moves host (m ∷ moves) = after_moves (moved host m).part moves

-- what a host says at a place, with the entries that it tells then
abbrev pub placed : ℕ → Option HostSaid → List Entry → List (ℕ × HostSaid)
placed place answer told = map (λ (s : HostSaid). (place, s)) (option_to_list answer ++ map said.Told told)

-- what the moves say, each with the place of its move, from this place on. The first is followed by the entries, too, that
-- were told before and that nobody asked for
unfoldable pub talk_from : ℕ → Host → List Entry → List HostMove → List (ℕ × HostSaid)
talk_from place host waiting [] = []
talk_from place host waiting (m ∷ moves) =
    placed place (moved host m).answer (waiting ++ (moved host m).told) ++ talk_from (place + 1) (moved host m).part [] moves

-- the entries that are still told after the moves: each move's are said at once
abbrev pub told_after : List Entry → List HostMove → List Entry
told_after waiting [] = waiting
told_after waiting (m ∷ moves) = []

-- some moves from the front were played, and no other
pub record HasPlayed (before after : Driver) (moves : List HostMove) : Type 0 where
  pub count : ℕ
  pub within : count < length moves
  pub host : after.host ≡ after_moves before.host (take count moves)
  pub told : after.told ≡ told_after before.told (take count moves)

-- ---- how a talk is kept

-- what was said at one move
abbrev pub said_in : Saying → List (ℕ × HostSaid)
said_in saying = placed saying.place saying.answer saying.told.items

abbrev pub talk_in : List Saying → List (ℕ × HostSaid)
talk_in sayings = flat_map said_in sayings
