-- What is asked of each entry holds of each entry.
use Rattle.std.proofs.Common.{◌≡◌, ℕ, List, [], ◌∷◌, ◌++◌, subst}
use Rattle.mpt_trace.specs.declared.entry.Entry.{Entry}
use Rattle.mpt_wire.specs.Walks.Passes.{EachEntry}
use Rattle.mpt_wire.specs.Queues.Marks.{ReplyLaneAsks, RepliesOnTheirLanes}
use Rattle.mpt_wire.specs.Messages.Standing.{MessageAsks, MessagesStand}

at_place : (asks : Entry → Type 0) (before after : List Entry) (e : Entry) → EachEntry asks (before ++ e ∷ after) → asks e
at_place asks [] after e p = p.0
at_place asks (x ∷ before) after e p = at_place asks before after e p.1

pub asked_of_each : (asks : Entry → Type 0) (t before after : List Entry) (e : Entry) → EachEntry asks t → t ≡ before ++ e ∷ after → asks e
asked_of_each asks t before after e p split = at_place asks before after e (subst (EachEntry asks) split p)

pub replies_on_their_lanes : (q : ℕ) (t : List Entry) → EachEntry (ReplyLaneAsks q) t → RepliesOnTheirLanes q t
replies_on_their_lanes q t p before after e split = asked_of_each (ReplyLaneAsks q) t before after e p split

pub messages_stand : (q : ℕ) (t : List Entry) → EachEntry (MessageAsks q) t → MessagesStand q t
messages_stand q t p before after e split = asked_of_each (MessageAsks q) t before after e p split
