use Rattle.law_ties.proofs.SoFarKept.{so_far_kept}
use Rattle.law_ties.proofs.laws.words_agree.Goals as goal

pub returns : goal.returns
returns c = λ h t e. so_far_kept h t e
