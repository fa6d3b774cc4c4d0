use Rattle.ioc_msgs.specs.UnitControl.{unit_control_values}
use Rattle.ioc_msgs.proofs.unit_control.UnitControl.values.Goals as goal

pub returns : goal.returns
unfolding unit_control_values
returns c = cc
