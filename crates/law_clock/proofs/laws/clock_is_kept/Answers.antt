use Rattle.law_clock.proofs.ClockKept.{clock_kept}
use Rattle.law_clock.proofs.laws.clock_is_kept.Goals as goal

pub returns : goal.returns
returns c = clock_kept
