use Rattle.law_sizes.proofs.SizesKept.{sizes_stand}
use Rattle.law_sizes.proofs.laws.sizes_stand.Goals as goal

pub returns : goal.returns
returns c = sizes_stand
