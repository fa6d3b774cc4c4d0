use Rattle.event_msgs.specs.EventAckReply.{event_ack_reply_layout}
use Rattle.event_msgs.proofs.event_ack_reply.EventAckReply.layout.Goals as goal

pub returns : goal.returns
unfolding event_ack_reply_layout
returns c = c.new.ensures
