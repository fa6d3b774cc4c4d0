-- What the controller puts on its lanes, and what it leaves.
use Rattle.std.specs.Prelude.{ℕ, Bool, true, false, if◌then◌else◌, List, drop, slice_get, slice_set, Option, Some, None}
use Rattle.mpt_wire.specs.Messages.Fields.{address_descriptor, reply_frame_address, success_descriptor}
use Rattle.mpt_trace.specs.declared.item.Out.{Out}
use Rattle.mpt_trace.specs.declared.item.Up.{Up}
use Rattle.mpt_trace.specs.declared.item.Up.TheVariants as up
use Rattle.mpt_rules.specs.declared.said.Said.{Said}
use Rattle.mpt_rules.specs.declared.said.Said.TheVariants as said
use Rattle.mpt_rules.specs.Ioc.Parts.{Ioc}
use Rattle.mpt_rules.specs.Ioc.Replies.{outbox_of}

-- a reply with its frame, which takes the first of the reply frames that the controller may use
abbrev pub framed_up : ℕ → List ℕ → List ℕ → List ℕ → Option ℕ → Option Up
framed_up smid frame page sense None = None
framed_up smid frame page sense (Some f) = Some (up.Reply (address_descriptor smid (reply_frame_address f)) (Some frame) page sense)

-- what an item is on the lane, given the first reply frame; without one a reply that needs a frame waits
abbrev pub up_of : Said → Option ℕ → Option Up
up_of (said.Value value) free = Some (up.Value value)
up_of (said.Success smid page sense) free = Some (up.Reply (success_descriptor smid) None page sense)
up_of (said.Framed smid frame page sense) free = framed_up smid frame page sense free
up_of (said.Mark generation) free = Some (up.Mark generation)
up_of said.Calm free = Some up.Calm

-- the front of an outbox, if it has one, as it is on the lane
abbrev pub front_up_of : Option Said → Option ℕ → Option Up
front_up_of None free = None
front_up_of (Some item) free = up_of item free

-- what is put next on the lane of a reply queue: nothing where its outbox is empty or its front waits for a frame
abbrev pub front_up_on : Ioc → ℕ → Option Up
front_up_on ioc queue = front_up_of (slice_get (outbox_of ioc queue) 0) (slice_get ioc.ring 0)

-- the item takes a reply frame
abbrev pub needs_frame : Option Said → Bool
needs_frame (Some (said.Framed smid frame page sense)) = true
needs_frame _ = false

-- the front of the outbox of a reply queue was put
abbrev pub up_sent_on : Ioc → ℕ → Ioc
up_sent_on ioc queue =
    record ioc {
      up = slice_set ioc.up queue (drop 1 (outbox_of ioc queue));
      ring = if needs_frame (slice_get (outbox_of ioc queue) 0) then drop 1 ioc.ring else ioc.ring;
    }

-- what is put next on the lane out
abbrev pub front_out : Ioc → Option Out
front_out ioc = slice_get ioc.out 0

-- it was put
abbrev pub out_sent : Ioc → Ioc
out_sent ioc = record ioc { out = drop 1 ioc.out }
