use Rattle.std.proofs.Common.{◌≡◌, length}
use Rattle.mpt_script.specs.Schedules.{schedule_of, schedule_from}
use Rattle.mpt_script.proofs.Reading.{preceded}
use Rattle.mpt_script.proofs.schedule.read_schedule.Given as goal

abbrev pub invariant-loop-line : goal.invariant-loop-line
invariant-loop-line l = schedule_of l.text ≡ preceded l.lines.items (schedule_from l.number l.declared l.left)

abbrev pub decreases-loop-line : goal.decreases-loop-line
decreases-loop-line l = length l.left
