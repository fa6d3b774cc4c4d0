use Rattle.event_msgs.specs.EventAck.{event_ack_layout}
use Rattle.event_msgs.proofs.event_ack.EventAck.layout.Goals as goal

pub returns : goal.returns
unfolding event_ack_layout
returns c = c.new.ensures
