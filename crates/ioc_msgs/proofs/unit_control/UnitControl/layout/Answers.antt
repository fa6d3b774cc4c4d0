use Rattle.ioc_msgs.specs.UnitControl.{unit_control_layout}
use Rattle.ioc_msgs.proofs.unit_control.UnitControl.layout.Goals as goal

pub returns : goal.returns
unfolding unit_control_layout
returns c = c.new.ensures
