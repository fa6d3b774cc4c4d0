use Rattle.law_served.proofs.Through.{events_through}
use Rattle.law_served.proofs.laws.events_are_let_through.Goals as goal

pub returns : goal.returns
returns c = λ w h x f plain stand. events_through w h f stand plain x
