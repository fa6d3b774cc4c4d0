use Rattle.law_disks.proofs.Kept.{was_first}
use Rattle.law_disks.proofs.laws.ready_was_plugged_at_first.Goals as goal

pub returns : goal.returns
returns c = was_first
