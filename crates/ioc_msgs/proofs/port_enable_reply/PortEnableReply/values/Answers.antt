use Rattle.ioc_msgs.specs.PortEnableReply.{port_enable_reply_values}
use Rattle.ioc_msgs.proofs.port_enable_reply.PortEnableReply.values.Goals as goal

pub returns : goal.returns
unfolding port_enable_reply_values
returns c = cc
