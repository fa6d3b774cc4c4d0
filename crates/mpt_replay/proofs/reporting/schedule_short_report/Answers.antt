use Rattle.mpt_wire.specs.Machine.Reports.{short_report}
use Rattle.mpt_replay.proofs.Replays.{same_text}
use Rattle.mpt_replay.proofs.reporting.schedule_short_report.Goals as goal

pub returns : goal.returns
returns c =
    same_text c.short_report_text.result short_report c.entries.result.now c.summary.result.now c.in_ok-replayed.replayed c.args.schedule.now c.short_report_text.ensures
    c.entries.ensures c.summary.ensures c.in_ok-replayed.ensures
