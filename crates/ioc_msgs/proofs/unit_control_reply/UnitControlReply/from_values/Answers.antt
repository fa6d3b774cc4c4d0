use Rattle.std.proofs.Common.{refl}
use Rattle.ioc_msgs.specs.UnitControlReply.{unit_control_reply_layout, unit_control_reply_values}
use Rattle.ioc_msgs.proofs.unit_control_reply.UnitControlReply.from_values.Goals as goal

pub returns : goal.returns
unfolding unit_control_reply_layout unit_control_reply_values
returns c = refl
