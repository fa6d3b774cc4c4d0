use Rattle.law_numbers.proofs.TallyKept.{tallies_kept}
use Rattle.law_numbers.proofs.laws.tallies_are_the_hosts.Goals as goal

pub returns : goal.returns
returns c = λ w h x f plain. tallies_kept w h f plain x
