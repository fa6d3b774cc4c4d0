use Rattle.law_lights.proofs.ClocksKept.{clocks_kept}
use Rattle.law_lights.proofs.laws.clocks_are_kept.Goals as goal

pub returns : goal.returns
returns c = clocks_kept
