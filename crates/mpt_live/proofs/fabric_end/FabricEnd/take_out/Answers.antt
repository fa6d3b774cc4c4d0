use Rattle.std.proofs.Common.{ap, true}
use Rattle.mpt_rules.specs.Session.OpenCases.{fabric_does}
use Rattle.mpt_live.specs.Lanes.{LaneEnd}
use Rattle.mpt_live.proofs.FabricKeeps.{fabric_books, takes_item}
use Rattle.mpt_live.proofs.Led.{moved_from}
use Rattle.mpt_live.proofs.fabric_end.FabricEnd.take_out.Goals as goal

pub returns : goal.returns
returns g c =
    moved_from fabric_does fabric_books _ c.args.self.now _ _ true c.self.view_is
    (takes_item _ _ _ _ c.in-Some.sent c.in_ok-take_out.ensures (ap (λ (out : LaneEnd _). record { out = out; back = c.self.inside.back }) c.in-Some.ensures.got))
