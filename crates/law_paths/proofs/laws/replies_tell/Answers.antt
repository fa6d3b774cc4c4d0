use Rattle.law_paths.proofs.TellsPass.{tells_pass}
use Rattle.law_paths.proofs.laws.replies_tell.Goals as goal

pub returns : goal.returns
returns c = λ w h x f plain more pays s. tells_pass w h f more.tags more.outcomes pays plain x s
