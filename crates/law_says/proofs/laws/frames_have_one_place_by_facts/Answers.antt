use Rattle.law_says.proofs.Places.{frames_say}
use Rattle.law_says.proofs.laws.frames_have_one_place_by_facts.Goals as goal

pub returns : goal.returns
returns c = frames_say
