use Rattle.law_targets.proofs.PlugsTold.{plugs_told}
use Rattle.law_targets.proofs.laws.plugs_are_told.Goals as goal

pub returns : goal.returns
returns c = plugs_told
