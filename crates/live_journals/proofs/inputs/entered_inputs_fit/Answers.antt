use Rattle.live_journals.proofs.Entered.{one_more_entered}
use Rattle.live_journals.proofs.inputs.entered_inputs_fit.Goals as goal

pub loop-entry-preserved : goal.loop-entry-preserved
loop-entry-preserved c = one_more_entered c.args.entries.now c.loop-entry.entry-index c.entry-item.result c.entry-item.is c.loop-entry-test.true c.input_fits.ensures c.loop-entry.invariant
