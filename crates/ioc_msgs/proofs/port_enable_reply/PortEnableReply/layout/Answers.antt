use Rattle.ioc_msgs.specs.PortEnableReply.{port_enable_reply_layout}
use Rattle.ioc_msgs.proofs.port_enable_reply.PortEnableReply.layout.Goals as goal

pub returns : goal.returns
unfolding port_enable_reply_layout
returns c = c.new.ensures
