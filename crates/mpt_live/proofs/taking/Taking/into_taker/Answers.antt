use Rattle.std.proofs.Common.{ap}
use Rattle.mpt_live.specs.Lanes.{LaneEnd}
use Rattle.mpt_live.proofs.Opened.{taker_by_id}
use Rattle.mpt_live.proofs.taking.Taking.into_taker.Goals as goal

pub returns-clause-taker : goal.returns-clause-taker
returns-clause-taker g c = taker_by_id c.self.inside.lane.now c.self.inside.taker c.args.self.lane c.self.invariant (ap (λ (end : LaneEnd _). end.lane) c.self.view_is)
