use Rattle.std.proofs.Common.{refl}
use Rattle.mpt_rules.specs.Session.OpenCases.{host_does}
use Rattle.mpt_live.proofs.HostKeeps.{host_books, if_puts_down}
use Rattle.mpt_live.proofs.Led.{if_moved}
use Rattle.mpt_live.proofs.host_end.HostEnd.put_down.Goals as goal

pub returns : goal.returns
returns g c =
    if_moved host_does host_books c.put_down.result _ c.args.self.now _ c.self.view_is (if_puts_down _ _ _ _ c.put_down.result c.put_down.new.lane c.put_down.ensures.made c.put_down.ensures.given refl)
