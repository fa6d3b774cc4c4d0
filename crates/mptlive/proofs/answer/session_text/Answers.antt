use Rattle.mptlive.proofs.Reported.{reported}
use Rattle.mptlive.proofs.answer.session_text.Goals as goal

pub returns : goal.returns
returns g c = reported c.args.kind c.args.plan.now c.in_ok-ended.ended c.as_slice.result.now c.report_by.result c.in_ok-ended.ensures c.as_slice.ensures c.report_by.ensures
