use Rattle.law_paths.proofs.MarksKept.{marks_kept}
use Rattle.law_paths.proofs.laws.marks_are_kept.Goals as goal

pub returns : goal.returns
returns c = λ w h x f plain more. marks_kept w h f plain more.tags more x
