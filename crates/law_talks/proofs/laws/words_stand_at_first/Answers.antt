use Rattle.law_talks.proofs.TalkStand.{stands_at_first}
use Rattle.law_talks.proofs.laws.words_stand_at_first.Goals as goal

pub returns : goal.returns
returns c = stands_at_first
