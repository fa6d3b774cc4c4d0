use Rattle.std.proofs.Common.{◌≡◌, ap, ◌∙◌}
use Rattle.ioc_core.specs.Seen.{IocSeen}
use Rattle.mpt_rules.specs.Host.Parts.{new_host}
use Rattle.mpt_rules.specs.Ioc.Parts.{new_ioc}
use Rattle.live_session.proofs.cores.Cores.new.Goals as goal

pub returns : goal.returns
returns c =
    let plan = c.args.plan.now in
    let phys : c.in_ok-to_vec.field-0.items ≡ plan.phys = c.in_ok-to_vec.ensures.items_if_clones_equal (λ x y e. e) ∙ c.phys.ensures in
    record {
      host = c.in_ok-host.ensures.host ∙ ap new_host c.queues.ensures.queues;
      host_told = c.in_ok-host.ensures.told;
      ioc = ap (λ (i : IocSeen). i.part) c.in_ok-ioc.ensures ∙ (ap (λ xs. new_ioc xs c.queues-2.result) phys ∙ ap (λ q. new_ioc plan.phys q) c.queues-2.ensures.queues);
      ioc_told = ap (λ (i : IocSeen). i.told) c.in_ok-ioc.ensures;
      fabric = c.in_ok-fabric.ensures;
    }
