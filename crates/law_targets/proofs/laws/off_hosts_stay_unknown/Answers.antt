use Rattle.law_targets.proofs.KnownKept.{off_at_first, off_known}
use Rattle.law_targets.proofs.laws.off_hosts_stay_unknown.Goals as goal

pub returns-clause-first : goal.returns-clause-first
returns-clause-first c = off_at_first

pub returns-clause-kept : goal.returns-clause-kept
returns-clause-kept c = λ w h x f plain off. off_known w h f plain off x
