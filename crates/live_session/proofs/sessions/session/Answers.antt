use Rattle.std.proofs.Common.{◌∙◌, List, ap, length}
use Rattle.mpt_trace.specs.declared.input.Input.{Input}
use Rattle.live_session.proofs.Whole.{plan_left}
use Rattle.live_session.proofs.sessions.session.Goals as goal

pub new-requires : goal.new-requires
new-requires g c = (c.plans_keep_limits.ensures c.args.plan.now c.queues-queues.ensures.allowed).setting

pub ended-requires-clause-setting : goal.ended-requires-clause-setting
ended-requires-clause-setting g c = (c.plans_keep_limits.ensures c.args.plan.now c.queues-queues.ensures.allowed).setting

pub ended-requires-clause-left : goal.ended-requires-clause-left
ended-requires-clause-left g c =
    let first = c.in_ok-cores.ensures in
    let cores = c.in_ok-cores.cores in
    plan_left c.args.plan.now c.in_ok-left.left cores.host.host cores.ioc.part cores.fabric c.in_ok-ends.ends.len c.in_ok-left.ensures
    first.host first.ioc first.fabric (c.in_ok-ends.ensures.count ∙ ap (λ (xs : List (List Input)). length xs) c.submitters.ensures)
