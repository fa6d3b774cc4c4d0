use Rattle.std.proofs.Common.{sym}
use Rattle.live_session.specs.Left.{HasRun}
use Rattle.live_session.proofs.Opened.{zipped}
use Rattle.live_session.proofs.submitters.run_all.Goals as goal

pub returns : goal.returns
returns g c = zipped HasRun c.args.ends.now c.run_each.new.ends (sym c.run_each.auto.ends) c.run_each.ensures
