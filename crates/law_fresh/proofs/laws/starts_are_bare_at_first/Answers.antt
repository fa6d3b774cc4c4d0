use Rattle.law_fresh.proofs.FreshStands.{bare_at_first}
use Rattle.law_fresh.proofs.laws.starts_are_bare_at_first.Goals as goal

pub returns : goal.returns
returns c = bare_at_first
