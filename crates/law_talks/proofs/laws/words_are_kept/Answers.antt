use Rattle.law_talks.proofs.TalkStand.{talk_kept}
use Rattle.law_talks.proofs.laws.words_are_kept.Goals as goal

pub returns : goal.returns
returns c = λ w h x f plain t g. talk_kept w h x f plain t g
