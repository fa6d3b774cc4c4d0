use Rattle.ioc_msgs.specs.UnitControlReply.{unit_control_reply_layout}
use Rattle.ioc_msgs.proofs.unit_control_reply.UnitControlReply.layout.Goals as goal

pub returns : goal.returns
unfolding unit_control_reply_layout
returns c = c.new.ensures
