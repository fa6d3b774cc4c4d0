use Rattle.mpt_replay.proofs.Texts.{line_more}
use Rattle.mpt_replay.proofs.reporting.report_text.Goals as goal

pub loop-entry-preserved : goal.loop-entry-preserved
loop-entry-preserved c =
    line_more c.args.entries.now c.loop-entry.entry-index c.entry-item.result c.loop-entry.text c.push_line.new.text c.loop-entry-test.true c.entry-item.is c.loop-entry.invariant c.in_ok-push_line.ensures
