use Rattle.law_steps.proofs.StepsStand.{reset_steps_stand}
use Rattle.law_steps.proofs.laws.reset_steps_are_kept.Goals as goal

pub returns : goal.returns
returns c = reset_steps_stand
