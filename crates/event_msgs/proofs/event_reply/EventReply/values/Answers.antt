use Rattle.event_msgs.specs.EventReply.{event_reply_values}
use Rattle.event_msgs.proofs.event_reply.EventReply.values.Goals as goal

pub returns : goal.returns
unfolding event_reply_values
returns c = cc
