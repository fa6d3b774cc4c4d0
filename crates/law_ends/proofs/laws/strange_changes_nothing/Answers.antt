use Rattle.law_ends.proofs.Strange.{strange_law}
use Rattle.law_ends.proofs.laws.strange_changes_nothing.Goals as goal

pub returns : goal.returns
returns c = strange_law
