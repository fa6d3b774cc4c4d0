use Rattle.std.proofs.Common.{refl}
use Rattle.ioc_msgs.specs.PortEnableReply.{port_enable_reply_layout, port_enable_reply_values}
use Rattle.ioc_msgs.proofs.port_enable_reply.PortEnableReply.from_values.Goals as goal

pub returns : goal.returns
unfolding port_enable_reply_layout port_enable_reply_values
returns c = refl
