use Rattle.law_ties.proofs.RingKept.{ring_goes}
use Rattle.law_ties.proofs.laws.replies_take_the_first_frame.Goals as goal

pub returns : goal.returns
returns c = λ w h x f plain. (ring_goes w h f plain x).passes
