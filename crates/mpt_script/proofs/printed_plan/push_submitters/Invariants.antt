use Rattle.std.proofs.Common.{◌≡◌, ◌++◌, drop}
use Rattle.mpt_script.specs.PrintedPlan.{submitters_text}
use Rattle.mpt_script.proofs.printed_plan.push_submitters.Given as goal

abbrev pub invariant-loop-number : goal.invariant-loop-number
invariant-loop-number l = l.text ++ submitters_text l.number (drop l.number l.submitters) ≡ l.initial.text ++ submitters_text 0 l.submitters
