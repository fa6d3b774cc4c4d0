use Rattle.law_lanes.proofs.Lanes.{lanes_kept}
use Rattle.law_lanes.proofs.laws.replies_keep_their_lanes.Goals as goal

pub returns : goal.returns
returns c = λ w h x f plain. lanes_kept w h f plain x
