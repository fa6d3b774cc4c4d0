-- Several reply queues: on which lane a reply comes, and the mark of each reset on each lane above up.
use Rattle.std.specs.Prelude.{◌≡◌, ℕ, ◌+◌, ◌-◌, ◌%◌, ◌^◌, ◌<◌, ◌≤◌, Bool, true, false, ◌&&◌, ◌==◌, nat_le, if◌then◌else◌, Option, Some, None, is_some, List, [], ◌∷◌, ◌++◌}
use Rattle.std.specs.List.{count_by}
use Rattle.mpi_names.specs.declared.smid.TheConstants.{FIRST_SCSI_IO_SMID, LAST_SCSI_IO_SMID}
use Rattle.mpt_trace.specs.declared.lane.LaneName.{LaneName}
use Rattle.mpt_trace.specs.declared.lane.LaneName.TheVariants as lane
use Rattle.mpt_trace.specs.declared.item.Item.{Item}
use Rattle.mpt_trace.specs.declared.item.Item.TheVariants as item
use Rattle.mpt_trace.specs.declared.item.Up.{Up}
use Rattle.mpt_trace.specs.declared.item.Up.TheVariants as up
use Rattle.mpt_trace.specs.declared.entry.Entry.{Entry}
use Rattle.mpt_trace.specs.declared.entry.Entry.TheVariants as entry
use Rattle.mpt_wire.specs.Messages.Fields.{smid_in}
use Rattle.mpt_wire.specs.Walks.Lasting.{Lasts, never}

-- ---- the lane of a reply, with q queues

-- the lane of a reply queue: up, up1 and so on
abbrev pub queue_lane : ℕ → LaneName
queue_lane i = if i == 0 then lane.Up else lane.UpOn i

-- the identifier is one of a SCSI IO
abbrev pub is_command : ℕ → Bool
is_command s = nat_le FIRST_SCSI_IO_SMID s && nat_le s LAST_SCSI_IO_SMID

-- the reply queue of a reply that names s
abbrev pub reply_queue_of : ℕ → ℕ → ℕ
reply_queue_of q s = if is_command s then (s - 1) % q else 0

-- a reply is put on the lane of its queue, a value on up, and a mark on a lane above up
abbrev pub IsOnItsLane : ℕ → LaneName → Up → Type 0
IsOnItsLane q l (up.Value value) = l ≡ lane.Up
IsOnItsLane q l (up.Reply descriptor frame page sense) = l ≡ queue_lane (reply_queue_of q (smid_in descriptor))
IsOnItsLane q l (up.Mark generation) = (i : ℕ) × (l ≡ lane.UpOn i) × (1 ≤ i) × (i < q)
IsOnItsLane q l up.Calm = Unit {0}

-- of each entry
abbrev pub ReplyLaneAsks : ℕ → Entry → Type 0
ReplyLaneAsks q (entry.Put l (item.Up i)) = IsOnItsLane q l i
ReplyLaneAsks q _ = Unit {0}

-- each reply, value and mark is put on its lane
abbrev pub RepliesOnTheirLanes : ℕ → List Entry → Type 0
RepliesOnTheirLanes q t = (before after : List Entry) (e : Entry) → t ≡ before ++ e ∷ after → ReplyLaneAsks q e

-- ---- the marks on the lane of queue i, over the entries before

abbrev pub is_lane : ℕ → LaneName → Bool
is_lane i (lane.UpOn j) = j == i
is_lane i _ = false

-- what the entry puts on the lane of queue i
abbrev pub put_on_queue : ℕ → Entry → Option Item
put_on_queue i (entry.Put l it) = if is_lane i l then Some it else None
put_on_queue i _ = None

-- what it takes from there
abbrev pub taken_on_queue : ℕ → Entry → Option Item
taken_on_queue i (entry.Take l it) = if is_lane i l then Some it else None
taken_on_queue i _ = None

abbrev pub is_unbind_all : Entry → Bool
is_unbind_all entry.UnbindAll = true
is_unbind_all _ = false

-- the number of the next reset after these entries, counted from 1
abbrev pub reset_number : List Entry → ℕ
reset_number before = (count_by is_unbind_all before + 1) % 2 ^ 32

abbrev pub mark_item : ℕ → Item
mark_item generation = item.Up (up.Mark generation)

abbrev pub IsUnbindAll : Entry → Type 0
IsUnbindAll e = is_unbind_all e ≡ true

abbrev pub puts_on : ℕ → Entry → Bool
puts_on i e = is_some (put_on_queue i e)

-- a reset after which nothing was put on the lane yet
abbrev pub IsMarkDue : ℕ → List Entry → Type 0
IsMarkDue i before = Lasts IsUnbindAll (puts_on i) before

-- the mark of the last reset was taken from the lane
pub record IsMarkTaken (i : ℕ) (before : List Entry) : Type 0 where
  pub reset : Lasts IsUnbindAll is_unbind_all before
  pub took : Lasts (λ e. taken_on_queue i e ≡ Some (mark_item (reset_number reset.earlier))) never reset.since

-- after each reset the next item on the lane is the reset's mark, and no other mark is put there; each `reset done`
-- stands after the taking of its reset's mark
pub record LaneIsMarked (i : ℕ) (t : List Entry) : Type 0 where
  pub marks : (before after : List Entry) (e : Entry) (it : Item) → t ≡ before ++ e ∷ after → put_on_queue i e ≡ Some it → (due : IsMarkDue i before) → it ≡ mark_item (reset_number due.earlier)
  pub no_other : (before after : List Entry) (e : Entry) (generation : ℕ) → t ≡ before ++ e ∷ after → put_on_queue i e ≡ Some (mark_item generation) → IsMarkDue i before
  pub awaited : (before after : List Entry) → t ≡ before ++ entry.ResetDone ∷ after → IsMarkTaken i before

-- so it is on each lane above up
abbrev pub LanesAreMarked : ℕ → List Entry → Type 0
LanesAreMarked q t = (i : ℕ) → 1 ≤ i → i < q → LaneIsMarked i t

-- ---- as a rule that goes over the entries

-- how far the mark of the last reset is
pub data MarkWait : Type 0 where
  -- there was no reset
  NoReset : MarkWait
  -- the mark with this number wasn't taken
  Awaits : (number : ℕ) → MarkWait
  Taken : MarkWait

-- how many resets there were, modulo 2^32; the marks that the next item on the lane has to be; and the wait for
-- the mark of the last reset
pub record Marking : Type 0 where
  pub resets : ℕ
  pub due : List ℕ
  pub wait : MarkWait

abbrev pub no_marking : Marking
no_marking = record { resets = 0; due = []; wait = NoReset }

abbrev pub is_mark_item : ℕ → Item → Bool
is_mark_item generation (item.Up (up.Mark number)) = number == generation
is_mark_item generation _ = false

abbrev pub next_reset : ℕ → ℕ
next_reset resets = (resets + 1) % 2 ^ 32

abbrev pub due_after_put : List ℕ → Option Item → List ℕ
due_after_put due None = due
due_after_put due (Some it) = []

abbrev pub wait_after_take : MarkWait → Option Item → MarkWait
wait_after_take (Awaits number) (Some it) = if is_mark_item number it then Taken else Awaits number
wait_after_take wait taken = wait

abbrev pub marks_next : ℕ → Marking → Entry → Marking
marks_next i g entry.UnbindAll = record { resets = next_reset g.resets; due = next_reset g.resets ∷ g.due; wait = Awaits (next_reset g.resets) }
marks_next i g (entry.Put l it) = record g { due = due_after_put g.due (put_on_queue i (entry.Put l it)) }
marks_next i g (entry.Take l it) = record g { wait = wait_after_take g.wait (taken_on_queue i (entry.Take l it)) }
marks_next i g _ = g

-- the item is each of the marks that are due
abbrev pub IsEachMark : List ℕ → Item → Type 0
IsEachMark [] it = Unit {0}
IsEachMark (number ∷ due) it = (it ≡ mark_item number) × IsEachMark due it

abbrev pub IsNoMark : Item → Type 0
IsNoMark (item.Up (up.Mark number)) = ⊥
IsNoMark _ = Unit {0}

-- an item where no mark is due is none
abbrev pub IsMarkOrDue : List ℕ → Item → Type 0
IsMarkOrDue [] it = IsNoMark it
IsMarkOrDue (number ∷ due) it = IsEachMark (number ∷ due) it

abbrev pub ItemAsks : List ℕ → Option Item → Type 0
ItemAsks due None = Unit {0}
ItemAsks due (Some it) = IsMarkOrDue due it

abbrev pub MarkAsks : ℕ → Marking → Entry → Type 0
MarkAsks i g (entry.Put l it) = ItemAsks g.due (put_on_queue i (entry.Put l it))
MarkAsks i g entry.ResetDone = g.wait ≡ Taken
MarkAsks i g _ = Unit {0}
