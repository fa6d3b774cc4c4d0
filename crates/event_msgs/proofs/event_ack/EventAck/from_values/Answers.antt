use Rattle.std.proofs.Common.{refl}
use Rattle.event_msgs.specs.EventAck.{event_ack_layout, event_ack_values}
use Rattle.event_msgs.proofs.event_ack.EventAck.from_values.Goals as goal

pub returns : goal.returns
unfolding event_ack_layout event_ack_values
returns c = refl
