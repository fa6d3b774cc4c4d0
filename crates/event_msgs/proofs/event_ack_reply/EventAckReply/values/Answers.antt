use Rattle.event_msgs.specs.EventAckReply.{event_ack_reply_values}
use Rattle.event_msgs.proofs.event_ack_reply.EventAckReply.values.Goals as goal

pub returns : goal.returns
unfolding event_ack_reply_values
returns c = cc
