use Rattle.law_first.proofs.ClockFirst.{clock_first}
use Rattle.law_first.proofs.laws.clocks_stand_at_first.Goals as goal

pub returns : goal.returns
returns c = clock_first
