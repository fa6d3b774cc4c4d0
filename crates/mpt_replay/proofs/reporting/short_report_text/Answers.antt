use Rattle.mpt_replay.proofs.Texts.{shown_more}
use Rattle.mpt_replay.proofs.reporting.short_report_text.Goals as goal

pub loop-entry-preserved : goal.loop-entry-preserved
loop-entry-preserved c =
    shown_more c.args.entries.now c.loop-entry.entry-index c.entry-item.result c.loop-entry.text c.push_shown.new.text c.loop-entry-test.true c.entry-item.is c.loop-entry.invariant c.in_ok-push_shown.ensures
