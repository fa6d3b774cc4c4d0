use Rattle.law_ends.proofs.IocFrames.{frames_law}
use Rattle.law_ends.proofs.laws.frames_are_returned.Goals as goal

pub returns : goal.returns
returns c = frames_law
