use Rattle.law_ends.proofs.IocReplies.{replies_law}
use Rattle.law_ends.proofs.laws.replies_are_for_posts.Goals as goal

pub returns : goal.returns
returns c = replies_law
