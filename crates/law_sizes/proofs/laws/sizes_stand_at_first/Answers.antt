use Rattle.law_sizes.proofs.SizesKept.{sizes_at_first}
use Rattle.law_sizes.proofs.laws.sizes_stand_at_first.Goals as goal

pub returns : goal.returns
returns c = sizes_at_first
