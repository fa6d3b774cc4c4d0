use Rattle.law_paths.proofs.Kept.{stages_kept}
use Rattle.law_paths.proofs.laws.stages_are_kept.Goals as goal

pub returns : goal.returns
returns c = λ w h x f plain more. stages_kept w h f plain more x
