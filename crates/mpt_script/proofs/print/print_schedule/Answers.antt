use Rattle.std.proofs.Common.{arith, ◌∙◌, ap, refl}
use Rattle.mpt_script.specs.Declarations.{nothing_declared}
use Rattle.mpt_script.specs.Printed.{schedule_text}
use Rattle.mpt_script.specs.Schedules.{schedule_of}
use Rattle.mpt_script.proofs.SchedulesBack.{schedule_back}
use Rattle.mpt_script.proofs.Printing.{printed_all, printed_line}
use Rattle.mpt_script.proofs.print.print_schedule.Goals as goal

pub loop-line-preserved : goal.loop-line-preserved
loop-line-preserved c = record {
  so_far = rw (c.in_ok-push.ensures.ok, c.in_ok-push_line.ensures, c.expanders_of-expanders.ensures.value)
      (printed_line c.loop-line.text _ c.loop-line.expanders c.loop-line.line-index c.lines-lines.result.now c.line-item.result c.loop-line-test.true c.line-item.is c.loop-line.invariant.so_far);
  few = omega arith;
}

pub returns-clause-text : goal.returns-clause-text
returns-clause-text c = printed_all c.loop-line.text _ c.loop-line.expanders c.loop-line.line-index c.lines-lines.result.now c.loop-line-test.false c.loop-line.invariant.so_far ∙ ap (schedule_text 0) c.lines-lines.ensures.lines

pub returns-clause-reads_back : goal.returns-clause-reads_back
returns-clause-reads_back c =
    let text = printed_all c.loop-line.text _ c.loop-line.expanders c.loop-line.line-index c.lines-lines.result.now c.loop-line-test.false c.loop-line.invariant.so_far ∙ ap (schedule_text 0) c.lines-lines.ensures.lines in
    ap schedule_of text ∙ schedule_back 1 0 nothing_declared c.args.schedule.now refl c.lines-lines.ensures.allowed
