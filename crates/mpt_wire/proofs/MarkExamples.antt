-- Traces that keep the rules of reply queues, and ones that break them.
use Rattle.std.proofs.Common.{ℕ, [], ◌∷◌, None, refl, arith}
use Rattle.std.proofs.lemmas.Grind.{common_steps}
use Rattle.mpt_trace.specs.declared.lane.LaneName.{LaneName}
use Rattle.mpt_trace.specs.declared.lane.LaneName.TheVariants as lane
use Rattle.mpt_trace.specs.declared.item.Item.TheVariants as item
use Rattle.mpt_trace.specs.declared.item.Up.{Up}
use Rattle.mpt_trace.specs.declared.item.Up.TheVariants as up
use Rattle.mpt_trace.specs.declared.entry.Entry.{Entry}
use Rattle.mpt_trace.specs.declared.entry.Entry.TheVariants as entry
use Rattle.mpt_wire.specs.Walks.Passes.{EachEntry, Passes}
use Rattle.mpt_wire.specs.Messages.Fields.{success_descriptor}
use Rattle.mpt_wire.specs.Queues.Marks.{ReplyLaneAsks, MarkAsks, marks_next, no_marking}

abbrev puts : LaneName → Up → Entry
puts l i = entry.Put l (item.Up i)

abbrev takes : LaneName → Up → Entry
takes l i = entry.Take l (item.Up i)

-- the success of the command under s
abbrev succeeds : ℕ → Up
succeeds s = up.Reply (success_descriptor s) None [] []

-- ---- lanes

-- with two queues the commands of 1 and 2 are answered on up and up1, and 257 on up
on_their_lanes : EachEntry (ReplyLaneAsks 2) (puts lane.Up (succeeds 1) ∷ puts (lane.UpOn 1) (succeeds 2) ∷ puts lane.Up (succeeds 257) ∷ puts lane.Up (up.Value 0) ∷ [])
on_their_lanes = (refl, (refl, (refl, (refl, tt))))

on_another_lane : EachEntry (ReplyLaneAsks 2) (puts lane.Up (succeeds 2) ∷ []) → ⊥
on_another_lane p = let wrong = p.0 in cc

value_above_up : EachEntry (ReplyLaneAsks 2) (puts (lane.UpOn 1) (up.Value 0) ∷ []) → ⊥
value_above_up p = let wrong = p.0 in cc

mark_on_up : EachEntry (ReplyLaneAsks 2) (puts lane.Up (up.Mark 1) ∷ []) → ⊥
mark_on_up p = let wrong = p.0.1 in cc

-- ---- marks on up1

-- a reply, the mark of a reset, its taking, and the end of the reset
marked : Passes (marks_next 1) (MarkAsks 1) no_marking (puts (lane.UpOn 1) (succeeds 2) ∷ entry.UnbindAll ∷ puts (lane.UpOn 1) (up.Mark 1) ∷ takes (lane.UpOn 1) (succeeds 2)
    ∷ takes (lane.UpOn 1) (up.Mark 1) ∷ entry.ResetDone ∷ [])
marked = (tt, (tt, ((refl, tt), (tt, (tt, (refl, tt))))))

-- the second reset's mark is 2
second_mark : Passes (marks_next 1) (MarkAsks 1) no_marking (entry.UnbindAll ∷ puts (lane.UpOn 1) (up.Mark 1) ∷ entry.UnbindAll ∷ puts (lane.UpOn 1) (up.Mark 2) ∷ [])
second_mark = (tt, ((refl, tt), (tt, ((refl, tt), tt))))

-- a host that doesn't await the mark
not_awaited : Passes (marks_next 1) (MarkAsks 1) no_marking (entry.UnbindAll ∷ puts (lane.UpOn 1) (up.Mark 1) ∷ entry.ResetDone ∷ []) → ⊥
not_awaited p = let wrong = p.1.1.0 in cc

-- a reply behind the reset and before its mark
reply_first : Passes (marks_next 1) (MarkAsks 1) no_marking (entry.UnbindAll ∷ puts (lane.UpOn 1) (succeeds 2) ∷ []) → ⊥
reply_first p = let wrong = p.1.0.0 in cc

-- a second mark of one reset
marked_twice : Passes (marks_next 1) (MarkAsks 1) no_marking (entry.UnbindAll ∷ puts (lane.UpOn 1) (up.Mark 1) ∷ puts (lane.UpOn 1) (up.Mark 1) ∷ []) → ⊥
marked_twice p = p.1.1.0

-- a mark without a reset
unasked_mark : Passes (marks_next 1) (MarkAsks 1) no_marking (puts (lane.UpOn 1) (up.Mark 0) ∷ []) → ⊥
unasked_mark p = p.0

-- after two resets without an item between, none may follow
two_resets : Passes (marks_next 1) (MarkAsks 1) no_marking (entry.UnbindAll ∷ entry.UnbindAll ∷ puts (lane.UpOn 1) (up.Mark 2) ∷ []) → ⊥
two_resets p = let wrong = p.1.1.0.1.0 in grind (arith, wrong, common_steps)
