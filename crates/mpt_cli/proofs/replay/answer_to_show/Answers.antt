use Rattle.std.proofs.Common.{◌∙◌, subst}
use Rattle.mpt_script.specs.Schedules.{Refuses, schedule_of}
use Rattle.mpt_replay.specs.Reports.{schedule_short_report}
use Rattle.mpt_cli.proofs.ReportAnswers.{refused, reported}
use Rattle.mpt_cli.proofs.replay.answer_to_show.Goals as goal

pub returns-in_ok-schedule_short_report-in-Ok : goal.returns-in_ok-schedule_short_report-in-Ok
returns-in_ok-schedule_short_report-in-Ok c =
    reported schedule_short_report (schedule_of c.args.input.now) c.in-Ok.schedule c.listed.result.status c.listed.result.text c.in-Ok.ensures.read c.listed.ensures.status
    (c.listed.ensures.text ∙ c.in_ok-schedule_short_report-in-Ok.ensures)

pub returns-in-Err-At : goal.returns-in-Err-At
returns-in-Err-At c =
    refused schedule_short_report (schedule_of c.args.input.now) (record { line = c.in-Err-At.line; cause = c.in-Err-At.cause }) c.refused_at.result (subst (λ f. Refuses f (schedule_of c.args.input.now)) c.in-Err-At.field-0-is c.in-Err-At.ensures.refused)
    c.refused_at.ensures.status c.refused_at.ensures.text
