use Rattle.law_fresh.proofs.FreshStands.{bare_stands}
use Rattle.law_fresh.proofs.laws.starts_are_bare.Goals as goal

pub returns : goal.returns
returns c = bare_stands
