use Rattle.std.proofs.Common.{refl}
use Rattle.event_msgs.specs.EventReply.{event_reply_layout, event_reply_values}
use Rattle.event_msgs.proofs.event_reply.EventReply.from_values.Goals as goal

pub returns : goal.returns
unfolding event_reply_layout event_reply_values
returns c = refl
