use Rattle.law_classes.proofs.MadeFirst.{put_as_made}
use Rattle.law_classes.proofs.laws.posts_go_as_made.Goals as goal

pub returns : goal.returns
returns c = λ w h x f plain first. put_as_made w h f plain first x
