use Rattle.law_talks.proofs.TalkStand.{talk_passes}
use Rattle.law_talks.proofs.laws.handshakes_hand_over.Goals as goal

pub returns : goal.returns
returns c = λ w h x f plain t g. talk_passes w h x f plain t g
