use Rattle.law_sizes.proofs.SizesKept.{sizes_kept}
use Rattle.law_sizes.proofs.laws.sizes_are_kept.Goals as goal

pub returns : goal.returns
returns c = sizes_kept
