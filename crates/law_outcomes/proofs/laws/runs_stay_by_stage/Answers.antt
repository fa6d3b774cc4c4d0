use Rattle.law_outcomes.proofs.Runs.{runs_at_first, runs_kept}
use Rattle.law_outcomes.proofs.laws.runs_stay_by_stage.Goals as goal

pub returns-clause-first : goal.returns-clause-first
returns-clause-first c = runs_at_first

pub returns-clause-kept : goal.returns-clause-kept
returns-clause-kept c = λ w h x f plain more r. runs_kept w h f more r plain x
