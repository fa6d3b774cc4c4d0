-- Reply frames on the wire: each goes its cycle between host and controller.
use Rattle.std.specs.Prelude.{ℕ, ◌==◌, ◌&&◌, Bool, if◌then◌else◌, List, Option, Some, None}
use Rattle.mpt_trace.specs.declared.item.Item.{Item}
use Rattle.mpt_trace.specs.declared.item.Item.TheVariants as item
use Rattle.mpt_trace.specs.declared.item.Down.TheVariants as down
use Rattle.mpt_trace.specs.declared.item.Up.TheVariants as up
use Rattle.mpt_trace.specs.declared.entry.Entry.{Entry}
use Rattle.mpt_trace.specs.declared.entry.Entry.TheVariants as entry
use Rattle.mpt_wire.specs.Walks.Cycles.{InCycles, TurnsPass}
use Rattle.mpt_wire.specs.Messages.Fields.{address_flags, flags_in, frame_address_in}

-- the reply's descriptor names the frame address
abbrev pub names_frame : ℕ → ℕ → Bool
names_frame address descriptor = flags_in descriptor == address_flags && frame_address_in descriptor == address

-- the turn of an item that names the frame: the first number for a return, the second for a reply
abbrev pub frame_turn : ℕ → ℕ → ℕ → Item → Option ℕ
frame_turn address of_return of_reply (item.Down (down.Return a index)) = if a == address then Some of_return else None
frame_turn address of_return of_reply (item.Up (up.Reply descriptor frame page sense)) = if names_frame address descriptor then Some of_reply else None
frame_turn address of_return of_reply _ = None

-- where in the cycle put return, take return, put reply, take reply the entry stands, if it names the frame address
abbrev pub frame_stage : ℕ → Entry → Option ℕ
frame_stage address (entry.Put lane item) = frame_turn address 0 2 item
frame_stage address (entry.Take lane item) = frame_turn address 1 3 item
frame_stage address _ = None

-- since the last reset's end, the entries that name a frame address, also one that is no frame's, are a prefix of the cycle put return, take return, put reply, take reply, repeated
abbrev pub FramesInCycles : List Entry → Type 0
FramesInCycles t = (address : ℕ) → InCycles (frame_stage address) t

-- as a rule that goes over the trace
abbrev pub FramesPass : List Entry → Type 0
FramesPass t = (address : ℕ) → TurnsPass (frame_stage address) t
