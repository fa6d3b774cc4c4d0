use Rattle.law_asked.proofs.Shown.{tasks_are_kept}
use Rattle.law_asked.proofs.laws.tasks_are_kept.Goals as goal

pub returns : goal.returns
returns c = tasks_are_kept
