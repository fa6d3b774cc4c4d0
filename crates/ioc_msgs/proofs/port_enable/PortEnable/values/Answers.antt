use Rattle.ioc_msgs.specs.PortEnable.{port_enable_values}
use Rattle.ioc_msgs.proofs.port_enable.PortEnable.values.Goals as goal

pub returns : goal.returns
unfolding port_enable_values
returns c = cc
