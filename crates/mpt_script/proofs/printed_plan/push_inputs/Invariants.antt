use Rattle.std.proofs.Common.{◌≡◌, ◌++◌, take}
use Rattle.mpt_script.specs.PrintedPlan.{inputs_text}
use Rattle.mpt_script.proofs.printed_plan.push_inputs.Given as goal

abbrev pub invariant-loop-input : goal.invariant-loop-input
invariant-loop-input l = l.text ≡ l.initial.text ++ inputs_text (take l.input-index l.inputs)
