use Rattle.law_steps.proofs.StepsStand.{adapter_stands}
use Rattle.law_steps.proofs.laws.adapter_bit_is_kept.Goals as goal

pub returns : goal.returns
returns c = adapter_stands
