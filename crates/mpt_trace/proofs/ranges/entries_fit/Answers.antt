use Rattle.mpt_trace.proofs.FitSoFar.{fit_more}
use Rattle.mpt_trace.proofs.ranges.entries_fit.Goals as goal

pub loop-e-preserved : goal.loop-e-preserved
loop-e-preserved c = fit_more c.args.entries.now c.loop-e.e-index c.e-item.result c.e-item.is c.loop-e-test.true c.entry_fits.ensures c.loop-e.invariant
