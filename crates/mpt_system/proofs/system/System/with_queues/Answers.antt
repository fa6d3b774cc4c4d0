use Rattle.std.proofs.Common.{◌≡◌, true, map, None, sym, ap, ◌∙◌, subst}
use Rattle.std.specs.List.{list_all}
use Rattle.mpt_rules.specs.Fabric.Parts.{new_fabric}
use Rattle.sas_fabric.specs.Making.{making_refusal, zero_disk}
use Rattle.mpt_system.specs.Making.{has_fit_blocks, joined, made_of}
use Rattle.mpt_system.specs.Parties.{whole_of}
use Rattle.mpt_system.specs.Reached.{IsReached}
use Rattle.mpt_system.specs.Whole.{Whole}
use Rattle.mpt_system.proofs.Made.{within_limits}
use Rattle.mpt_system.proofs.Reached.{reached_first}
use Rattle.mpt_system.proofs.system.System.with_queues.Goals as goal
use Rattle.mpt_system.proofs.system.System.with_queues.Goals.{In_ok-parties}

-- what was made is the whole as it is made
made : (c : In_ok-parties) → whole_of c.in_ok-parties.parties ≡ made_of c.args.disks.now c.args.phys.now c.args.queues
made c =
    let phys : c.in_ok-to_vec.field-0.items ≡ c.args.phys.now = c.in_ok-to_vec.ensures.items_if_clones_equal (λ x y e. e) in
    let fabric : c.in_ok-fabric.fabric ≡ new_fabric c.args.disks.now c.args.phys.now =
    c.in_ok-fabric.ensures.zeros c.args.disks.now c.in_ok-make_disks.ensures ∙ ap (λ xs. new_fabric c.args.disks.now xs) phys in
    c.in_ok-parties.ensures ∙ ap (λ f. joined f c.args.phys.now c.args.queues) fabric

pub invariant_of-result : goal.invariant_of-result
invariant_of-result c =
    let phys : c.in_ok-to_vec.field-0.items ≡ c.args.phys.now = c.in_ok-to_vec.ensures.items_if_clones_equal (λ x y e. e) in
    let refused : making_refusal (map zero_disk c.args.disks.now) c.args.phys.now ≡ None =
    ap (λ xs. making_refusal (map zero_disk c.args.disks.now) xs) (sym phys)
    ∙ (ap (λ ds. making_refusal ds c.in_ok-to_vec.field-0.items) (sym c.in_ok-make_disks.ensures) ∙ sym c.in_ok-fabric.ensures.refused) in
    let blocks : list_all has_fit_blocks c.args.disks.now ≡ true = search in
    let within = within_limits c.args.disks.now c.args.phys.now c.args.queues blocks refused c.addresses_fit.ensures c.requires in
    let first = subst (λ (x : Whole). IsReached c.args.disks.now x.world x.entries) (sym (made c)) (reached_first (record { disks = c.args.disks.now; phys = c.args.phys.now; queues = c.args.queues }) within) in
    let copied : c.in_ok-declared.declared.items ≡ c.args.disks.now = c.in_ok-declared.ensures.items_if_clones_equal (λ x y e. e) in
    subst (λ ds. IsReached ds (whole_of c.in_ok-parties.parties).world (whole_of c.in_ok-parties.parties).entries) (sym copied) first

pub returns-clause-made : goal.returns-clause-made
returns-clause-made c = made c
