use Rattle.std.proofs.Common.{◌≡◌, ap, ◌∙◌}
use Rattle.mpt_rules.specs.Ioc.Parts.{new_ioc}
use Rattle.ioc_core.specs.Seen.{IocSeen}
use Rattle.mpt_system.proofs.Made.{joined_is}
use Rattle.mpt_system.specs.declared.parties.Parties.{Parties}
use Rattle.mpt_system.proofs.parties.Parties.new.Goals as goal

pub returns : goal.returns
returns c =
    let made : Parties = record {
      alloc = c.args.alloc;
      host = c.in_ok-host.host;
      ioc = c.in_ok-ioc.ioc;
      fabric = c.args.fabric;
      down = c.new-2.result;
      up = c.in_ok-up.up;
      out = c.new-3.result;
      back = c.new-4.result;
      trace = c.new-5.result;
    } in
    let phys : c.in_ok-to_vec.field-0.items ≡ c.args.phys.now = c.in_ok-to_vec.ensures.items_if_clones_equal (λ x y e. e) in
    joined_is made c.args.phys.now c.args.queues c.in_ok-host.ensures.host c.in_ok-host.ensures.told
    (ap (λ (i : IocSeen). i.part) c.in_ok-ioc.ensures ∙ ap (λ xs. new_ioc xs c.args.queues) phys) (ap (λ (i : IocSeen). i.told) c.in_ok-ioc.ensures)
    c.new-2.ensures.items c.in_ok-up.ensures c.new-3.ensures.items c.new-4.ensures.items c.new-5.ensures
