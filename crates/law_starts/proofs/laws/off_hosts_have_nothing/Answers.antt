use Rattle.law_starts.proofs.StartsKept.{off_stands}
use Rattle.law_starts.proofs.laws.off_hosts_have_nothing.Goals as goal

pub returns : goal.returns
returns c = off_stands
