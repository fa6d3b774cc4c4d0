use Rattle.law.proofs.FurtherKept.{further_first, further_stays}
use Rattle.law.proofs.laws.further_facts_are_kept.Goals as goal

pub returns-clause-first : goal.returns-clause-first
returns-clause-first c = further_first

pub returns-clause-kept : goal.returns-clause-kept
returns-clause-kept c = further_stays
