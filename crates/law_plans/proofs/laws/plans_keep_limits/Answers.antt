use Rattle.law_plans.proofs.Limits.{plan_keeps_limits}
use Rattle.law_plans.proofs.laws.plans_keep_limits.Goals as goal

pub returns : goal.returns
returns c = λ p plan. plan_keeps_limits plan.0 p plan.1
