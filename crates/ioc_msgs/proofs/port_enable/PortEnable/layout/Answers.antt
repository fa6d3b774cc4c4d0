use Rattle.ioc_msgs.specs.PortEnable.{port_enable_layout}
use Rattle.ioc_msgs.proofs.port_enable.PortEnable.layout.Goals as goal

pub returns : goal.returns
unfolding port_enable_layout
returns c = c.new.ensures
