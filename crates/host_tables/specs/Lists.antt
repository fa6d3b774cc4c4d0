-- The lists of a host that grow: what it puts and tells, and what waits for an identifier.
use Rattle.std.specs.Prelude.{ℕ, ◌+◌, ◌≤◌, List}
use Rattle.std.specs.declared.collections.VecDeque.{VecDeque}
use Rattle.std.specs.VecDeque.{deque_capacity, deque_len}
use Rattle.mpt_trace.specs.declared.entry.Entry.{Entry}
use Rattle.mpt_trace.specs.declared.item.Down.{Down}
use Rattle.mpt_rules.specs.declared.request.Request.{Request}

-- and how many items more each of the four takes without memory
pub record Lists : Type 0 where
  pub down : List Down
  pub told : List Entry
  pub high : List ℕ
  pub internal : List Request
  pub room : ℕ

-- a list has the memory of so many items more
abbrev pub HasRoom : {X A : Type 0} → VecDeque X A → ℕ → Type 0
HasRoom deque room = deque_len deque + room ≤ deque_capacity deque
