use Rattle.law_counts.proofs.FitsKept.{fits_at_first}
use Rattle.law_counts.proofs.laws.counts_fit_at_first.Goals as goal

pub returns : goal.returns
returns c = fits_at_first
