use Rattle.law_notices.proofs.WerePlugged.{were_at_first, were_kept}
use Rattle.law_notices.proofs.laws.disks_were_plugged.Goals as goal

pub returns-clause-first : goal.returns-clause-first
returns-clause-first c = were_at_first

pub returns-clause-kept : goal.returns-clause-kept
returns-clause-kept c = λ w h x f plain z. were_kept w h f z plain x
