use Rattle.std.proofs.Common.{◌≡◌, ◌++◌, take}
use Rattle.mpt_script.specs.PrintedPlan.{disks_text}
use Rattle.mpt_script.proofs.printed_plan.push_disks.Given as goal

abbrev pub invariant-loop-disk : goal.invariant-loop-disk
invariant-loop-disk l = l.text ≡ l.initial.text ++ disks_text (take l.disk-index l.disks)
