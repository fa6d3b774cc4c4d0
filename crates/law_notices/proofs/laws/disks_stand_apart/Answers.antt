use Rattle.law_notices.proofs.Places.{apart_at_first, apart_kept}
use Rattle.law_notices.proofs.laws.disks_stand_apart.Goals as goal

pub returns-clause-first : goal.returns-clause-first
returns-clause-first c = apart_at_first

pub returns-clause-kept : goal.returns-clause-kept
returns-clause-kept c = λ w h x f plain z. apart_kept w h x f plain z
