use Rattle.law_disks.proofs.DisksKept.{disk_kept}
use Rattle.law_disks.proofs.laws.disks_are_the_fabrics.Goals as goal

pub returns : goal.returns
returns c = λ w h x f plain address. disk_kept w h f plain address x
