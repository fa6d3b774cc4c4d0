use Rattle.law_starts.proofs.StartsKept.{live_stands}
use Rattle.law_starts.proofs.laws.starts_come_up_by_init.Goals as goal

pub returns : goal.returns
returns c = live_stands
