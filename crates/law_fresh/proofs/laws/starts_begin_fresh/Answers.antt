use Rattle.law_fresh.proofs.FreshStands.{fresh_stands}
use Rattle.law_fresh.proofs.laws.starts_begin_fresh.Goals as goal

pub returns : goal.returns
returns c = fresh_stands
