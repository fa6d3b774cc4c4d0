use Rattle.law_numbers.proofs.Kept.{number_kept}
use Rattle.law_numbers.proofs.laws.numbers_are_the_hosts.Goals as goal

pub returns : goal.returns
returns c = λ w h x f plain n. number_kept w h f plain x n
