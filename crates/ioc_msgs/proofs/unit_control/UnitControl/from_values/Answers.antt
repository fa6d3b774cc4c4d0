use Rattle.std.proofs.Common.{refl}
use Rattle.ioc_msgs.specs.UnitControl.{unit_control_layout, unit_control_values}
use Rattle.ioc_msgs.proofs.unit_control.UnitControl.from_values.Goals as goal

pub returns : goal.returns
unfolding unit_control_layout unit_control_values
returns c = refl
