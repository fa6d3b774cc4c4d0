use Rattle.std.proofs.Common.{ap, true}
use Rattle.mpt_rules.specs.Session.OpenCases.{ioc_does}
use Rattle.mpt_live.specs.Lanes.{LaneEnd}
use Rattle.mpt_live.proofs.IocKeeps.{ioc_books, takes_from_fabric}
use Rattle.mpt_live.proofs.Led.{moved_from}
use Rattle.mpt_live.proofs.ioc_end.IocEnd.take_back.Goals as goal

pub returns : goal.returns
returns g c =
    moved_from ioc_does ioc_books _ c.args.self.now _ _ true c.self.view_is
    (takes_from_fabric _ _ _ _ c.in-Some.sent c.in_ok-take_back.ensures
    (ap (λ (back : LaneEnd _). record { down = c.self.inside.down; ups = c.self.inside.ups.items; out = c.self.inside.out; back = back }) c.in-Some.ensures.got))
