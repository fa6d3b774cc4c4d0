use Rattle.std.proofs.Common.{◌≡◌, ◌≤◌, ◌++◌, List, length, sym, ap, ◌∙◌, subst, arith}
use Rattle.std.specs.Prelude.{IfOk}
use Rattle.disk_machine.specs.Summary.{parts_with, summary_by}
use Rattle.disk_machine.specs.declared.parts_summary.PartsSummary.{PartsSummary}
use Rattle.mpt_trace.specs.declared.disk_spec.DiskSpec.{DiskSpec}
use Rattle.mpt_trace.specs.declared.entry.Entry.{Entry}
use Rattle.mpt_trace.specs.declared.summary.Summary.{Summary}
use Rattle.mpt_wire.specs.Machine.Reports.{last_machine}
use Rattle.mpt_rules.specs.World.Drain.{world_quiet}
use Rattle.mpt_system.specs.Parties.{whole_of}
use Rattle.mpt_system.specs.Summary.{declared_disks, whole_summary}
use Rattle.mpt_system.specs.Whole.{Whole}
use Rattle.mpt_system.proofs.Disks.{reached_disks, reached_few, reached_sizes}
use Rattle.mpt_system.proofs.Summaries.{summary_is}
use Rattle.mpt_system.proofs.system.System.summary.Goals as goal

pub summary_of_trace-requires-clause-few : goal.summary_of_trace-requires-clause-few
summary_of_trace-requires-clause-few c =
    let few : length c.self.inside.disks.items ≤ 64 = reached_few _ _ c.self.invariant in
    rw c.deref.ensures.value (omega (arith, few))

pub summary_of_trace-requires-clause-sizes : goal.summary_of_trace-requires-clause-sizes
summary_of_trace-requires-clause-sizes c = rw c.deref.ensures.value (reached_sizes _ _ c.self.invariant)

pub returns : goal.returns
returns c =
    let whole : Whole = whole_of c.self.inside.parties in
    let t : List Entry = c.as_slice.result.now in
    let disks : List DiskSpec = c.self.inside.disks.items in
    let parts : PartsSummary = c.parts_summary.result in
    let disks_are : declared_disks whole.world ≡ disks = reached_disks _ _ c.disks_stay.ensures c.self.invariant in
    let parts_are : parts ≡ parts_with whole.world.host.phases (world_quiet whole.world) =
    c.parts_summary.ensures ∙ ap (λ (x : Whole). parts_with x.world.host.phases (world_quiet x.world)) (sym c.self.view_is) in
    let told : whole.entries ≡ t ++ whole.pending = ap (λ (es : List Entry). es ++ whole.pending) (sym c.as_slice.ensures) in
    subst (λ s. IfOk c.summary_of_trace.result (λ (summary : Summary). summary ≡ s))
    (ap (λ (ds : List DiskSpec). summary_by (last_machine ds t) parts t) c.deref.ensures.value
    ∙ (summary_is whole disks t parts c.summaries_agree.ensures disks_are parts_are told ∙ ap whole_summary c.self.view_is))
    c.summary_of_trace.ensures
