use Rattle.std.proofs.Common.{refl}
use Rattle.mpt_rules.specs.Session.OpenCases.{ioc_does}
use Rattle.mpt_live.proofs.IocKeeps.{if_puts_up, ioc_books}
use Rattle.mpt_live.proofs.Led.{if_moved}
use Rattle.mpt_live.proofs.Several.{at_place}
use Rattle.mpt_live.proofs.ioc_end.IocEnd.put_up_on.Goals as goal

pub returns-in-Some : goal.returns-in-Some
returns-in-Some g c =
    if_moved ioc_does ioc_books c.put_up.result _ c.args.self.now _ c.self.view_is
    (if_puts_up _ _ _ _ c.from.result c.args.queue c.from.ensures c.in-Some.lane.now (at_place c.self.inside.ups.items c.from.result c.args.queue c.in-Some.lane.now c.from.ensures c.in-Some.ensures.item.3.0 c.in-Some.ensures.value)
    c.put_up.result c.put_up.new.lane c.put_up.ensures.made c.put_up.ensures.given refl)
