use Rattle.mpt_script.proofs.PlansBack.{plan_back}
use Rattle.mpt_script.proofs.printed_plan.print_plan.Goals as goal

pub returns-clause-reads_back : goal.returns-clause-reads_back
returns-clause-reads_back c =
    let some_text = c.queues.ensures.allowed in
    rw (c.in_ok-push_fabric.ensures, c.in_ok-push_submitters.ensures, c.in_ok-push_inputs.ensures, c.in_ok-push_expanders.ensures, c.in_ok-push_disks.ensures, c.in_ok-push_queues.ensures, c.new-text.ensures, c.queues.ensures.queues, c.disks.ensures, c.phys.ensures, c.as_slice.ensures, c.plugs.ensures, c.submitters.ensures, c.as_slice-2.ensures, c.fabric.ensures)
    (plan_back some_text.0 c.args.plan.now some_text.1)
