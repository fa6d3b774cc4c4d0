use Rattle.law_pages.proofs.PostsPass.{posts_pass}
use Rattle.law_pages.proofs.laws.posts_go_to_pages.Goals as goal

pub returns : goal.returns
returns c = λ w h x f plain other. posts_pass w h f plain other x
