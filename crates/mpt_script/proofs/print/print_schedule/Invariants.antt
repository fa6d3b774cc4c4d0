use Rattle.std.proofs.Common.{◌≡◌, ◌++◌, ◌≤◌, drop}
use Rattle.mpt_script.specs.Printed.{schedule_text}
use Rattle.mpt_script.proofs.print.print_schedule.Given as goal

abbrev pub invariant-loop-line : goal.invariant-loop-line
invariant-loop-line l = record {
  so_far : l.text ++ schedule_text l.expanders (drop l.line-index l.lines) ≡ schedule_text 0 l.lines;
  few : l.expanders ≤ l.line-index;
}
