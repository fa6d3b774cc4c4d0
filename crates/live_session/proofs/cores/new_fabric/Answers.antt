use Rattle.std.proofs.Common.{◌≡◌, List, None, ap, map, ◌∙◌}
use Rattle.scsi_disk.specs.Disk.{Disk}
use Rattle.mpt_rules.specs.Fabric.Parts.{new_fabric}
use Rattle.sas_fabric.specs.Making.{making_refusal, zero_disk}
use Rattle.law_plans.specs.Limits.{plan_setting}
use Rattle.live_session.proofs.Made.{none_refused, only_memory}
use Rattle.live_session.proofs.cores.new_fabric.Goals as goal

pub unreachable-requires : goal.unreachable-requires
unreachable-requires c =
    let plan = c.args.plan.now in
    let disks : c.in_ok-disks.disks.items ≡ map zero_disk plan.disks = c.in_ok-disks.ensures ∙ ap (map zero_disk) c.disks.ensures in
    let phys : c.in_ok-to_vec.field-0.items ≡ plan.phys = c.in_ok-to_vec.ensures.items_if_clones_equal (λ x y e. e) ∙ c.phys.ensures in
    let none : making_refusal c.in_ok-disks.disks.items c.in_ok-to_vec.field-0.items ≡ None =
    ap (λ (ds : List Disk). making_refusal ds c.in_ok-to_vec.field-0.items) disks ∙ (ap (λ xs. making_refusal (map zero_disk plan.disks) xs) phys ∙ none_refused (plan_setting plan) c.requires) in
    c.in_default.not-OutOfMemory (only_memory c.in-Err.fault (c.in-Err.ensures.refused ∙ none))

pub returns-in-Ok : goal.returns-in-Ok
returns-in-Ok c =
    let plan = c.args.plan.now in
    let disks : c.in_ok-disks.disks.items ≡ map zero_disk plan.disks = c.in_ok-disks.ensures ∙ ap (map zero_disk) c.disks.ensures in
    let phys : c.in_ok-to_vec.field-0.items ≡ plan.phys = c.in_ok-to_vec.ensures.items_if_clones_equal (λ x y e. e) ∙ c.phys.ensures in
    c.in-Ok.ensures.zeros plan.disks disks ∙ ap (λ xs. new_fabric plan.disks xs) phys
