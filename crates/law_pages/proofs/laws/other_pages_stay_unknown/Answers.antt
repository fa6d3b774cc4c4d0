use Rattle.law_pages.proofs.OthersKept.{others_at_first, others_kept}
use Rattle.law_pages.proofs.laws.other_pages_stay_unknown.Goals as goal

pub returns-clause-first : goal.returns-clause-first
returns-clause-first c = others_at_first

pub returns-clause-kept : goal.returns-clause-kept
returns-clause-kept c = λ w h x f plain other. others_kept w h f plain other x
