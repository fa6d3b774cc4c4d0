-- What is written to the controller's registers and read from them: resets, indices, reply frames and the interrupt
-- status.
use Rattle.std.specs.Prelude.{◌≡◌, ℕ, ◌+◌, ◌-◌, ◌*◌, ◌/◌, ◌%◌, ◌^◌, ◌<◌, ◌==◌, ◌&&◌, ◌||◌, Bool, true, false, bit_and, nat_lt, if◌then◌else◌, List, [], ◌∷◌, ◌++◌, drop, Option, Some, None}
use Rattle.std.specs.Bool.{MatchBool}
use Rattle.mpi_doorbell.specs.declared.registers.TheConstants.{DOORBELL, HOST_DIAGNOSTIC, HOST_INTERRUPT_STATUS, REPLY_POST_HOST_INDEX, DOORBELL_USED, DOORBELL_FUNCTION_SHIFT, DOORBELL_ADD_DWORDS_SHIFT, FUNCTION_HANDSHAKE, FUNCTION_MESSAGE_UNIT_RESET, DIAG_RESET_ADAPTER, IOC2SYS_DB_STATUS}
use Rattle.mpi_names.specs.declared.memory.TheConstants.{FREE_RING_ENTRIES}
use Rattle.mpi_names.specs.declared.memory.TheConstants.{POST_RING_ENTRIES}
use Rattle.mpt_trace.specs.declared.lane.LaneName.{LaneName}
use Rattle.mpt_trace.specs.declared.lane.LaneName.TheVariants as lane
use Rattle.mpt_trace.specs.declared.item.Item.TheVariants as item
use Rattle.mpt_trace.specs.declared.item.Down.TheVariants as down
use Rattle.mpt_trace.specs.declared.item.Up.TheVariants as up
use Rattle.mpt_trace.specs.declared.entry.Entry.{Entry}
use Rattle.mpt_trace.specs.declared.entry.Entry.TheVariants as entry
use Rattle.mpt_wire.specs.Messages.Fields.{address_flags, flags_in, frame_address_in}
use Rattle.mpt_wire.specs.Queues.Lanes.{IsFirst}
use Rattle.mpt_wire.specs.Machine.State.{put_at}
use Rattle.mpt_wire.specs.Walks.Passes.{Passes}

abbrev pub has_bit : ℕ → ℕ → Bool
has_bit value bit = bit_and value bit == bit

-- the function of a Doorbell write, and its count of dwords
abbrev pub door_function : ℕ → ℕ
door_function value = value / 2 ^ DOORBELL_FUNCTION_SHIFT

abbrev pub door_dwords : ℕ → ℕ
door_dwords value = value / 2 ^ DOORBELL_ADD_DWORDS_SHIFT % 2 ^ 8

-- ---- resets

-- the write that begins a reset: of the adapter by HostDiagnostic, or of the message unit by the Doorbell
abbrev pub is_reset_write : Entry → Bool
is_reset_write (entry.Take lane.Down (item.Down (down.Write reg value))) =
    (reg == HOST_DIAGNOSTIC && has_bit value DIAG_RESET_ADAPTER)
    || (reg == DOORBELL && value == FUNCTION_MESSAGE_UNIT_RESET * 2 ^ DOORBELL_FUNCTION_SHIFT)
is_reset_write _ = false

abbrev pub is_unbind_all : Entry → Bool
is_unbind_all entry.UnbindAll = true
is_unbind_all _ = false

-- `unbind all` stands next after each taking of such a write, and nowhere else
abbrev pub UnbindsAtResets : List Entry → Type 0
UnbindsAtResets t = Passes (λ (due : Bool) e. is_reset_write e) (λ (due : Bool) e. is_unbind_all e ≡ due) false t

-- ---- the indices of the host's rings

pub record Indices : Type 0 where
  -- by reply queue: how many replies were taken from it, and how often its index was written
  pub heard : ℕ → ℕ
  pub written : ℕ → ℕ
  -- how many frames were returned
  pub returned : ℕ

abbrev pub no_indices : Indices
no_indices = record { heard = λ queue. 0; written = λ queue. 0; returned = 0 }

abbrev pub lane_number : LaneName → ℕ
lane_number (lane.UpOn queue) = queue
lane_number _ = 0

-- bits 31..24 of ReplyPostHostIndex are the queue
abbrev pub queue_in : ℕ → ℕ
queue_in value = value / 2 ^ 24

abbrev pub one_more : ℕ → (ℕ → ℕ) → ℕ → ℕ
one_more queue counts = put_at queue (counts queue + 1) counts

abbrev pub indices_next : Indices → Entry → Indices
indices_next g (entry.Put lane.Down (item.Down (down.Write reg value))) = if reg == REPLY_POST_HOST_INDEX then record g { written = one_more (queue_in value) g.written } else g
indices_next g (entry.Put lane.Down (item.Down (down.Return address index))) = record g { returned = g.returned + 1 }
indices_next g (entry.Take l (item.Up (up.Reply descriptor frame page sense))) = record g { heard = one_more (lane_number l) g.heard }
indices_next g _ = g

-- the index behind the last reply that was told as read, and one for each reply
abbrev pub IsNextIndex : Indices → ℕ → ℕ → Type 0
IsNextIndex g queue value = (value ≡ queue * 2 ^ 24 + (g.written queue + 1) % POST_RING_ENTRIES) × (g.written queue < g.heard queue)

-- each write of ReplyPostHostIndex has its queue's next index, and each return the next index of the free ring.
-- Neither begins again at a reset
abbrev pub IndicesAsk : Indices → Entry → Type 0
IndicesAsk g (entry.Put lane.Down (item.Down (down.Write reg value))) = MatchBool (reg == REPLY_POST_HOST_INDEX) (IsNextIndex g (queue_in value) value) (Unit {0})
IndicesAsk g (entry.Put lane.Down (item.Down (down.Return address index))) = index ≡ (g.returned + 1) % FREE_RING_ENTRIES
IndicesAsk g _ = Unit {0}

abbrev pub IndicesInOrder : List Entry → Type 0
IndicesInOrder t = Passes indices_next IndicesAsk no_indices t

-- ---- the reply free ring

-- the frames that the controller may use
abbrev pub ring_next : List ℕ → Entry → List ℕ
ring_next ring (entry.Take lane.Down (item.Down (down.Return address index))) = ring ++ address ∷ []
ring_next ring (entry.Put l (item.Up (up.Reply descriptor frame page sense))) = if flags_in descriptor == address_flags then drop 1 ring else ring
ring_next ring entry.UnbindAll = []
ring_next ring _ = ring

-- a reply has the frame that waits longest
abbrev pub RingAsks : List ℕ → Entry → Type 0
RingAsks ring (entry.Put l (item.Up (up.Reply descriptor frame page sense))) = MatchBool (flags_in descriptor == address_flags) (IsFirst (frame_address_in descriptor) ring) (Unit {0})
RingAsks ring _ = Unit {0}

abbrev pub FramesInOrder : List Entry → Type 0
FramesInOrder t = Passes ring_next RingAsks [] t

-- ---- HostInterruptStatus

-- A model of the doorbell as entries show it, apart from the controller's own registers (`register_written` of
-- `mpi_doorbell`). Those can't be run over the writes that were taken alone: the words of a reply are the controller's
-- doing and in no entry. Here a reply is there behind the message's last dword, and it is over where the Doorbell was
-- read as unused.
pub record Bell : Type 0 where
  -- IOC2SYS_DB_STATUS
  pub rings : Bool
  -- how many dwords of a message are still to be written, and whether its reply is being read
  pub dwords : ℕ
  pub replying : Bool
  -- the Doorbell read as used when it was read last
  pub used : Bool
  -- the reads that aren't answered: the value of a read of HostInterruptStatus, and of another none
  pub reads : List (Option ℕ)

abbrev pub silent_bell : List (Option ℕ) → Bell
silent_bell reads = record { rings = false; dwords = 0; replying = false; used = false; reads = reads }

-- the status: its other bits read 0, as each write is taken at once
abbrev pub status_now : Bell → ℕ
status_now g = if g.rings then IOC2SYS_DB_STATUS else 0

-- a dword of the message; after the last one the reply is there
abbrev pub dword_written : Bell → Bell
dword_written g = if g.dwords == 1 then record g { dwords = 0; replying = true; used = true; rings = true } else record g { dwords = g.dwords - 1 }

abbrev pub handshake_begun : ℕ → Bell → Bell
handshake_begun value g = if door_function value == FUNCTION_HANDSHAKE then record g { dwords = door_dwords value; rings = true } else g

abbrev pub door_written : ℕ → Bell → Bell
door_written value g =
    if nat_lt 0 g.dwords then dword_written g
    else (if g.replying then g else handshake_begun value g)

-- a write to HostInterruptStatus goes on to the next word; behind the last one, which the Doorbell says, it ends the
-- handshake
abbrev pub status_written : Bell → Bell
status_written g = if g.replying && g.used then g else silent_bell g.reads

-- while dwords are awaited it clears the status alone
abbrev pub status_cleared : Bell → Bell
status_cleared g = if nat_lt 0 g.dwords then record g { rings = false } else status_written g

abbrev pub read_of : Bell → ℕ → Option ℕ
read_of g reg = if reg == HOST_INTERRUPT_STATUS then Some (status_now g) else None

-- a read of the Doorbell that is answered tells whether it is used
abbrev pub bell_next : Bell → Entry → Bell
bell_next g (entry.Take lane.Down (item.Down (down.Write reg value))) =
    if reg == DOORBELL then door_written value g
    else (if reg == HOST_INTERRUPT_STATUS then status_cleared g else g)
bell_next g (entry.Take lane.Down (item.Down (down.Read reg))) = record g { reads = g.reads ++ read_of g reg ∷ [] }
bell_next g (entry.Put l (item.Up (up.Value value))) = answered value g.reads g
  where
    answered : ℕ → List (Option ℕ) → Bell → Bell
    answered value (Some status ∷ reads) g = record g { reads = reads }
    answered value (None ∷ reads) g = record g { reads = reads; used = has_bit value DOORBELL_USED }
    answered value [] g = g
bell_next g entry.UnbindAll = silent_bell g.reads
bell_next g _ = g

-- the value is the status at the taking of the read that it answers
abbrev pub IsStatus : List (Option ℕ) → ℕ → Type 0
IsStatus (Some status ∷ reads) value = value ≡ status
IsStatus _ value = Unit {0}

abbrev pub BellAsks : Bell → Entry → Type 0
BellAsks g (entry.Put l (item.Up (up.Value value))) = IsStatus g.reads value
BellAsks g _ = Unit {0}

abbrev pub StatusIsRight : List Entry → Type 0
StatusIsRight t = Passes bell_next BellAsks (silent_bell []) t
