use Rattle.std.proofs.Common.{refl}
use Rattle.mpt_rules.specs.Session.OpenCases.{ioc_does}
use Rattle.mpt_live.proofs.IocKeeps.{if_puts_out, ioc_books}
use Rattle.mpt_live.proofs.Led.{if_moved}
use Rattle.mpt_live.proofs.ioc_end.IocEnd.put_out.Goals as goal

pub returns : goal.returns
returns g c =
    if_moved ioc_does ioc_books c.put_out.result _ c.args.self.now _ c.self.view_is (if_puts_out _ _ _ _ c.put_out.result c.put_out.new.lane c.put_out.ensures.made c.put_out.ensures.given refl)
