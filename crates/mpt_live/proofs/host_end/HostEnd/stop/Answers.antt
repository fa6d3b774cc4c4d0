use Rattle.std.proofs.Common.{refl}
use Rattle.mpt_rules.specs.Session.OpenCases.{HostCase, host_does}
use Rattle.mpt_live.proofs.HostKeeps.{host_books, if_makes}
use Rattle.mpt_live.proofs.Led.{if_moved}
use Rattle.mpt_live.proofs.host_end.HostEnd.stop.Goals as goal

pub returns : goal.returns
returns c = if_moved host_does host_books c.stop.result _ c.args.self.now _ c.self.view_is (if_makes _ _ _ _ c.stop.result HostCase.Stops tt c.stop.ensures refl)
