use Rattle.event_msgs.specs.EventReply.{event_reply_layout}
use Rattle.event_msgs.proofs.event_reply.EventReply.layout.Goals as goal

pub returns : goal.returns
unfolding event_reply_layout
returns c = c.new.ensures
