use Rattle.law_disks.proofs.Wired.{disks_kept}
use Rattle.law_disks.proofs.laws.addresses_are_the_fabrics.Goals as goal

pub returns : goal.returns
returns c = λ w h x f plain. disks_kept w h f plain x
