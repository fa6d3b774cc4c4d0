use Rattle.law_stopping.proofs.RepliesKept.{replies_kept}
use Rattle.law_stopping.proofs.laws.replies_are_awaited.Goals as goal

pub returns : goal.returns
returns c = λ w h k f plain more. replies_kept w h f plain more k
