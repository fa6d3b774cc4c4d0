use Rattle.std.proofs.Common.{◌≡◌, ◌++◌, drop}
use Rattle.mpt_script.specs.PrintedPlan.{expanders_text}
use Rattle.mpt_script.proofs.printed_plan.push_expanders.Given as goal

abbrev pub invariant-loop-number : goal.invariant-loop-number
invariant-loop-number l = l.text ++ expanders_text l.number (drop l.number l.fn.phys) ≡ l.initial.text ++ expanders_text 0 l.fn.phys
