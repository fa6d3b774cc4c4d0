use Rattle.std.proofs.Common.{◌∙◌, sym}
use Rattle.live_session.proofs.ending.run_parties.Goals as goal

pub returns : goal.returns
returns g c =
    let cores = c.join-host.ensures.first in
    let others = c.join-host.ensures.second in
    let submitters = rw c.in_ok-submitters.was at others.1 in
    record {
      host = rw c.in_ok-host.was at cores.0;
      ioc = rw c.in_ok-ioc.was at cores.1;
      fabric = rw c.in_ok-fabric.was at others.0;
      submitters = submitters.0;
      count = sym c.in_ok-submitters.field-0.ok.0 ∙ submitters.1;
    }
