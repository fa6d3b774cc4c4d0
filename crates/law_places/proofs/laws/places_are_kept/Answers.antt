use Rattle.law_places.proofs.Kept.{places_kept}
use Rattle.law_places.proofs.laws.places_are_kept.Goals as goal

pub returns : goal.returns
returns c = λ w h x f plain vectors. places_kept w h f plain vectors x
