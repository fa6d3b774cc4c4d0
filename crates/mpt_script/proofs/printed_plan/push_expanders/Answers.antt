use Rattle.mpt_script.proofs.PrintingPlans.{all_expanders, one_expander}
use Rattle.mpt_script.proofs.printed_plan.push_expanders.Goals as goal

pub loop-number-preserved : goal.loop-number-preserved
loop-number-preserved c =
    rw (c.in_ok-push.ensures.ok, c.in_ok-push_expander.ensures) (one_expander c.loop-number.text _ c.loop-number.number c.args.phys.now c.loop-number-test.true c.loop-number.invariant)

pub returns : goal.returns
returns c = all_expanders c.loop-number.text _ c.loop-number.number c.args.phys.now c.loop-number-test.false c.loop-number.invariant
