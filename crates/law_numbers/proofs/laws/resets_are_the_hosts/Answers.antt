use Rattle.law_numbers.proofs.Kept.{resets_kept}
use Rattle.law_numbers.proofs.laws.resets_are_the_hosts.Goals as goal

pub returns : goal.returns
returns c = λ w h x f plain address. resets_kept w h f plain x address
