use Rattle.std.proofs.Common.{ap}
use Rattle.mpt_live.specs.Lanes.{LaneEnd}
use Rattle.mpt_live.proofs.Opened.{giver_by_id}
use Rattle.mpt_live.proofs.giving.Giving.into_giver.Goals as goal

pub returns-clause-giver : goal.returns-clause-giver
returns-clause-giver g c = giver_by_id c.self.inside.lane.now c.self.inside.giver c.args.self.lane c.self.invariant.0 (ap (λ (end : LaneEnd _). end.lane) c.self.view_is)
