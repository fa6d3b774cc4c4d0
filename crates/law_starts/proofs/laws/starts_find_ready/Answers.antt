use Rattle.law_starts.proofs.StartsKept.{look_stands}
use Rattle.law_starts.proofs.laws.starts_find_ready.Goals as goal

pub returns : goal.returns
returns c = look_stands
