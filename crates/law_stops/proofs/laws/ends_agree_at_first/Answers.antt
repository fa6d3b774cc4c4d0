use Rattle.law_stops.proofs.OneEnd.{ends_at_first}
use Rattle.law_stops.proofs.laws.ends_agree_at_first.Goals as goal

pub returns : goal.returns
returns c = ends_at_first
