-- The lists of a controller that grow: what waits for the lanes, what it tells, and the target resets that wait for the
-- last command of their handle.
use Rattle.std.specs.Prelude.{ℕ, ◌+◌, ◌≤◌, List, [], ◌∷◌, ◌++◌, filter, map, slice_set}
use Rattle.ioc_replies.specs.Outboxes.{waiting_for}
use Rattle.std.specs.declared.collections.VecDeque.{VecDeque}
use Rattle.std.specs.VecDeque.{deque_capacity, deque_len}
use Rattle.mpt_trace.specs.declared.entry.Entry.{Entry}
use Rattle.mpt_trace.specs.declared.item.Out.{Out}
use Rattle.mpt_trace.specs.declared.item.Out.TheVariants as out
use Rattle.mpt_rules.specs.declared.at_fabric.HeldReset.{HeldReset}
use Rattle.mpt_rules.specs.declared.said.Said.{Said}
use Rattle.mpt_rules.specs.Ioc.Resets.{marked, outlives_reset}

-- and how many items more each of them takes without memory
pub record ListsSeen : Type 0 where
  pub up : List (List Said)
  pub out : List Out
  pub told : List Entry
  pub held : List HeldReset
  pub room : ℕ

-- no item, with so many reply queues
abbrev pub lists_of : List (List Said) → ListsSeen
lists_of up = record { up = up; out = []; told = []; held = []; room = 0 }

-- a list has the memory of so many items more
abbrev pub HasSpare : {X A : Type 0} → VecDeque X A → ℕ → Type 0
HasSpare deque room = deque_len deque + room ≤ deque_capacity deque

-- each list has it
pub record HaveSpare {A : Type 0} (up : ℕ) (out : VecDeque Out A) (told : VecDeque Entry A) (held : VecDeque HeldReset A) (room : ℕ) : Type 0 where
  pub up_room : room ≤ up
  pub out_room : HasSpare out room
  pub told_room : HasSpare told room
  pub held_room : HasSpare held room

-- what a reset of this generation leaves
abbrev pub after_renewal : ℕ → ListsSeen → ListsSeen
after_renewal generation lists =
    record {
      up = marked generation (map (filter outlives_reset) lists.up);
      out = out.Link generation ∷ [];
      told = lists.told;
      held = [];
      room = 0;
    }

-- items go behind what waits for a reply queue
abbrev pub after_puts : ℕ → List Said → List (List Said) → List (List Said)
after_puts queue items boxes = slice_set boxes queue (waiting_for queue boxes ++ items)
