use Rattle.law_ready.proofs.OffKept.{off_at_first, off_kept}
use Rattle.law_ready.proofs.laws.off_hosts_stay_ready.Goals as goal

pub returns-clause-first : goal.returns-clause-first
returns-clause-first c = off_at_first

pub returns-clause-kept : goal.returns-clause-kept
returns-clause-kept c = λ w h x f plain off. off_kept w h f plain off x
