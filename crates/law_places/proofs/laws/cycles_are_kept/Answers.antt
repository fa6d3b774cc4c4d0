use Rattle.law_places.proofs.Kept.{turns_kept}
use Rattle.law_places.proofs.laws.cycles_are_kept.Goals as goal

pub returns : goal.returns
returns c = λ w h x f plain vectors. turns_kept w h f plain vectors x
