use Rattle.law_doors.proofs.DoorsKept.{resets_heeded}
use Rattle.law_doors.proofs.laws.reset_writes_are_heeded.Goals as goal

pub returns : goal.returns
returns c = resets_heeded
