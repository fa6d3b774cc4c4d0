use Rattle.std.proofs.Common.{◌≡◌, length}
use Rattle.mpt_script.specs.Plans.{plan_of, plan_from}
use Rattle.mpt_script.proofs.plan_text.read_plan.Given as goal

abbrev pub invariant-loop-line : goal.invariant-loop-line
invariant-loop-line l = plan_of l.text ≡ plan_from l.number l.planning l.left

abbrev pub decreases-loop-line : goal.decreases-loop-line
decreases-loop-line l = length l.left
