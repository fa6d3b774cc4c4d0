-- Traces that break a rule of lanes, identifiers or reply frames, and their neighbours that don't.
use Rattle.std.proofs.Common.{◌≡◌, ℕ, true, false, List, [], ◌∷◌, ◌++◌, replicate, Some, None, refl, arith}
use Rattle.mpi_layout.specs.Rows.{field}
use Rattle.event_msgs.specs.EventReply.{event_reply_layout}
use Rattle.mpi_rings.specs.declared.request_descriptor.PostKind.TheVariants as post
use Rattle.mpt_trace.specs.declared.input.Input.TheVariants as input
use Rattle.mpt_trace.specs.declared.lane.LaneName.TheVariants as lane
use Rattle.mpt_trace.specs.declared.item.Item.{Item}
use Rattle.mpt_trace.specs.declared.item.Item.TheVariants as item
use Rattle.mpt_trace.specs.declared.item.Down.TheVariants as down
use Rattle.mpt_trace.specs.declared.item.Up.TheVariants as up
use Rattle.mpt_trace.specs.declared.outcome.Outcome.TheVariants as outcome
use Rattle.mpt_trace.specs.declared.refusal.Refusal.TheVariants as refusal
use Rattle.mpt_trace.specs.declared.refusal.RefusedCall.TheVariants as call
use Rattle.mpt_trace.specs.declared.entry.Entry.TheVariants as entry
use Rattle.mpt_wire.specs.Messages.Fields.{post_descriptor, success_descriptor, address_descriptor, reply_frame_address}
use Rattle.mpt_wire.specs.Walks.Passes.{Passes}
use Rattle.mpt_wire.specs.Queues.Lanes.{lane_next, LaneAsks}
use Rattle.mpt_wire.specs.Walks.Cycles.{TurnsPass}
use Rattle.mpt_wire.specs.Queues.Identifiers.{smid_stage, ClassesKept}
use Rattle.mpt_wire.specs.Queues.LeastFree.{LeastPass}
use Rattle.mpt_wire.specs.Queues.Frames.{frame_stage}

-- ---- lanes

abbrev stop : Item
stop = item.Down down.Stop

abbrev a_read : Item
a_read = item.Down (down.Read 0)

-- what is taken from an empty lane
taken_from_nothing : Passes (lane_next lane.Down) (LaneAsks lane.Down) [] (entry.Take lane.Down stop ∷ []) → ⊥
taken_from_nothing h = let e : [] ≡ stop ∷ h.0.0 = h.0.1 in absurd (cc)

-- what overtakes another item of its lane
overtaken : Passes (lane_next lane.Down) (LaneAsks lane.Down) [] (entry.Put lane.Down a_read ∷ entry.Put lane.Down stop ∷ entry.Take lane.Down stop ∷ []) → ⊥
overtaken h = let e : a_read ∷ stop ∷ [] ≡ stop ∷ h.1.1.0.0 = h.1.1.0.1 in absurd (cc)

-- lanes stand apart: what is on one isn't on another
on_another_lane : Passes (lane_next (lane.UpOn 2)) (LaneAsks (lane.UpOn 2)) [] (entry.Put (lane.UpOn 1) (item.Up up.Calm) ∷ entry.Take (lane.UpOn 2) (item.Up up.Calm) ∷ []) → ⊥
on_another_lane h = let e : [] ≡ item.Up up.Calm ∷ h.1.0.0 = h.1.0.1 in absurd (cc)

-- ---- cycles of identifiers

abbrev post_of : ℕ → Item
post_of s = item.Down (down.Post (post_descriptor post.ScsiIo 0 s 9) [] [])

abbrev reply_to : ℕ → Item
reply_to s = item.Up (up.Reply (success_descriptor s) None [] [])

-- an identifier is posted again before it is answered
posted_twice : TurnsPass (smid_stage 1) (entry.Put lane.Down (post_of 1) ∷ entry.Put lane.Down (post_of 1) ∷ []) → ⊥
posted_twice h = let e : ◌≡◌ {A = ℕ} 0 1 = h.1.0 in absurd (omega arith)

-- a command is answered a second time
replied_twice : TurnsPass (smid_stage 1) (entry.Put lane.Down (post_of 1) ∷ entry.Take lane.Down (post_of 1) ∷ entry.Put lane.Up (reply_to 1) ∷ entry.Take lane.Up (reply_to 1) ∷ entry.Put lane.Up (reply_to 1) ∷ []) → ⊥
replied_twice h = let e : ◌≡◌ {A = ℕ} 2 0 = h.1.1.1.1.0 in absurd (omega arith)

-- a reset's end cuts the cycle anywhere
posted_after_a_reset : TurnsPass (smid_stage 1) (entry.Put lane.Down (post_of 1) ∷ entry.ResetDone ∷ entry.Put lane.Down (post_of 1) ∷ [])
posted_after_a_reset = (refl, (tt, (refl, tt)))

-- ---- classes

-- a task management request with the identifier of a SCSI IO
high_with_a_low : ClassesKept (entry.Put lane.Down (item.Down (down.Post (post_descriptor post.HighPriority 0 1 9) [] [])) ∷ []) → ⊥
high_with_a_low h = absurd (omega arith)

-- a post with unknown flags
unknown_flags : ClassesKept (entry.Put lane.Down (item.Down (down.Post 65538 [] [])) ∷ []) → ⊥
unknown_flags h = h.0

-- a reply to no request that is no event
no_event : ClassesKept (entry.Put lane.Up (reply_to 0) ∷ []) → ⊥
no_event h = h.0

-- an event names no request
abbrev event_frame : List ℕ
event_frame = (0 ∷ 0 ∷ 7 ∷ 7 ∷ []) ++ replicate 124 0

an_event : ClassesKept (entry.Put lane.Up (item.Up (up.Reply (address_descriptor 0 65536) (Some event_frame) [] [])) ∷ [])
unfolding field event_reply_layout
an_event = ((refl, refl), tt)

-- ---- the least free identifier

-- an accept with the second least
pub second_least : LeastPass (entry.Accept 1 5 2 ∷ []) → ⊥
second_least h = let e : false ≡ true = h.0.least 1 (omega arith) (omega arith) in absurd (cc)

-- an accept with the identifier of an open request
still_open : LeastPass (entry.Accept 1 5 1 ∷ entry.Accept 2 5 1 ∷ []) → ⊥
still_open h = let e : true ≡ false = h.1.0.free in absurd (cc)

-- an identifier is free again while an open abort names its command
still_named : LeastPass (entry.Accept 1 5 1 ∷ entry.Given (input.Abort 1) ∷ entry.Answer 1 outcome.Terminated ∷ entry.Accept 2 5 1 ∷ []) → ⊥
still_named h = let e : true ≡ false = h.1.1.1.0.free in absurd (cc)

-- an abort that was refused holds nothing
not_named : LeastPass (entry.Accept 1 5 1 ∷ entry.Given (input.Abort 1) ∷ entry.Refuse (call.Abort 1) refusal.NoIdentifier ∷ entry.Answer 1 outcome.Gone ∷ entry.Accept 2 5 1 ∷ [])
not_named = (
  record { low = omega arith; high = omega arith; free = refl; least = λ k from below. absurd (omega arith) },
  (tt, (tt, (tt, (record { low = omega arith; high = omega arith; free = refl; least = λ k from below. absurd (omega arith) }, tt)))),
)

-- ---- reply frames

abbrev frame : ℕ
frame = reply_frame_address 0

abbrev the_return : Item
the_return = item.Down (down.Return frame 1)

abbrev the_reply : Item
the_reply = item.Up (up.Reply (address_descriptor 1 frame) (Some []) [] [])

-- a reply in a frame that was never returned
never_returned : TurnsPass (frame_stage frame) (entry.Put lane.Up the_reply ∷ []) → ⊥
never_returned h = let e : ◌≡◌ {A = ℕ} 2 0 = h.0 in absurd (omega arith)

-- a frame is returned twice
returned_twice : TurnsPass (frame_stage frame) (entry.Put lane.Down the_return ∷ entry.Put lane.Down (item.Down (down.Return frame 2)) ∷ []) → ⊥
returned_twice h = let e : ◌≡◌ {A = ℕ} 0 1 = h.1.0 in absurd (omega arith)

-- a frame is returned before its reply was taken
returned_early : TurnsPass (frame_stage frame) (entry.Put lane.Down the_return ∷ entry.Take lane.Down the_return ∷ entry.Put lane.Up the_reply ∷ entry.Put lane.Down the_return ∷ []) → ⊥
returned_early h = let e : ◌≡◌ {A = ℕ} 0 3 = h.1.1.1.0 in absurd (omega arith)

-- a frame that goes round
goes_round : TurnsPass (frame_stage frame) (entry.Put lane.Down the_return ∷ entry.Take lane.Down the_return ∷ entry.Put lane.Up the_reply ∷ entry.Take lane.Up the_reply ∷ entry.Put lane.Down the_return ∷ [])
goes_round = (refl, (refl, (refl, (refl, (refl, tt)))))
