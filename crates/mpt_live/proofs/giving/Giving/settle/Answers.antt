use Rattle.std.proofs.Common.{◌∙◌, ap, sym}
use Rattle.mpt_live.specs.Lanes.{LaneEnd}
use Rattle.mpt_live.proofs.giving.Giving.settle.Goals as goal

pub settle-requires-clause-taker : goal.settle-requires-clause-taker
settle-requires-clause-taker g c =
    c.into_taker.ensures.taker c.self.inside.lane.now (ap (λ (end : LaneEnd _). end.lane) c.self.view_is ∙ sym c.requires)
