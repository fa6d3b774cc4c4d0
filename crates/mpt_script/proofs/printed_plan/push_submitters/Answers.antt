use Rattle.mpt_script.proofs.PrintingPlans.{all_submitters, one_submitter}
use Rattle.mpt_script.proofs.printed_plan.push_submitters.Goals as goal

pub loop-number-preserved : goal.loop-number-preserved
loop-number-preserved c =
    rw (c.in_ok-push_submitter.ensures, c.as_slice.ensures)
    (one_submitter c.loop-number.text _ c.loop-number.number c.args.submitters.now c.index-submitters-number.result c.loop-number-test.true c.index-submitters-number.is c.loop-number.invariant)

pub returns : goal.returns
returns c = all_submitters c.loop-number.text _ c.loop-number.number c.args.submitters.now c.loop-number-test.false c.loop-number.invariant
