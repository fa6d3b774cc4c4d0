use Rattle.law_places.proofs.Kept.{vectors_kept}
use Rattle.law_places.proofs.Says.{vectors_at_first}
use Rattle.law_places.proofs.laws.vectors_stay_few.Goals as goal

pub returns-clause-first : goal.returns-clause-first
returns-clause-first c = vectors_at_first

pub returns-clause-kept : goal.returns-clause-kept
returns-clause-kept c = λ w h x f plain vectors. vectors_kept w h f plain vectors x
