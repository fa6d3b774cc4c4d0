use Rattle.law_doors.proofs.DoorsKept.{doors_kept}
use Rattle.law_doors.proofs.laws.doors_are_kept.Goals as goal

pub returns : goal.returns
returns c = doors_kept
