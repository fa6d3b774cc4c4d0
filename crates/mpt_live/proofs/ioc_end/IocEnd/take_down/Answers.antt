use Rattle.std.proofs.Common.{ap, true}
use Rattle.mpt_rules.specs.Session.OpenCases.{ioc_does}
use Rattle.mpt_live.specs.Lanes.{LaneEnd}
use Rattle.mpt_live.proofs.IocKeeps.{ioc_books, takes_from_host}
use Rattle.mpt_live.proofs.Led.{moved_from}
use Rattle.mpt_live.proofs.ioc_end.IocEnd.take_down.Goals as goal

pub returns : goal.returns
returns g c =
    moved_from ioc_does ioc_books _ c.args.self.now _ _ true c.self.view_is
    (takes_from_host _ _ _ _ c.in-Some.sent c.in_ok-take_down.ensures
    (ap (λ (down : LaneEnd _). record { down = down; ups = c.self.inside.ups.items; out = c.self.inside.out; back = c.self.inside.back }) c.in-Some.ensures.got))
