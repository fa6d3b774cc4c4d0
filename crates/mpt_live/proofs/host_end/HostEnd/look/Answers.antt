use Rattle.std.proofs.Common.{refl}
use Rattle.mpt_rules.specs.Session.OpenCases.{HostCase, host_does}
use Rattle.mpt_live.proofs.HostKeeps.{host_books, if_makes}
use Rattle.mpt_live.proofs.Led.{if_moved}
use Rattle.mpt_live.proofs.host_end.HostEnd.look.Goals as goal

pub returns : goal.returns
returns c = if_moved host_does host_books c.look.result _ c.args.self.now _ c.self.view_is (if_makes _ _ _ _ c.look.result HostCase.Looks tt c.look.ensures refl)
