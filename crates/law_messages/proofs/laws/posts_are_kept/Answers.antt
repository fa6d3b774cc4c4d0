use Rattle.law_messages.proofs.Shown.{posts_kept}
use Rattle.law_messages.proofs.laws.posts_are_kept.Goals as goal

pub returns : goal.returns
returns c = posts_kept
