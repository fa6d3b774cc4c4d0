-- The summary of a whole is that of its trace.
use Rattle.std.proofs.Common.{◌≡◌, ◌-◌, ◌++◌, List, length, take, ap, sym, ◌∙◌, length-append, arith}
use Rattle.std.proofs.Math.Seq.{take-append_seam}
use Rattle.mpt_trace.specs.declared.disk_spec.DiskSpec.{DiskSpec}
use Rattle.mpt_trace.specs.declared.entry.Entry.{Entry}
use Rattle.mpt_trace.specs.declared.summary.Summary.{Summary}
use Rattle.mpt_wire.specs.Machine.Reports.{last_machine}
use Rattle.mpt_rules.specs.World.Drain.{world_quiet}
use Rattle.disk_machine.specs.Summary.{SummariesAgree, parts_with, summary_by}
use Rattle.disk_machine.specs.declared.parts_summary.PartsSummary.{PartsSummary}
use Rattle.mpt_system.specs.Summary.{declared_disks, entries_written, whole_summary}
use Rattle.mpt_system.specs.Whole.{Whole}

-- what is before the pending entries
pub before_pending : (t pending : List Entry) → take (length (t ++ pending) - length pending) (t ++ pending) ≡ t
before_pending t pending =
    let long : length (t ++ pending) - length pending ≡ length t = let n = length-append t pending in omega (arith, n) in
    ap (λ n. take n (t ++ pending)) long ∙ take-append_seam t pending

pub summary_is : (whole : Whole) (disks : List DiskSpec) (t : List Entry) (parts : PartsSummary) → SummariesAgree → declared_disks whole.world ≡ disks
    → parts ≡ parts_with whole.world.host.phases (world_quiet whole.world) → whole.entries ≡ t ++ whole.pending
    → summary_by (last_machine disks t) parts t ≡ whole_summary whole
summary_is whole disks t parts agree disks_are parts_are told =
    let of_parts : PartsSummary → Summary = λ p. summary_by (last_machine disks t) p t in
    let of_disks : List DiskSpec → Summary = λ ds. summary_of ds t in
    let of_entries : List Entry → Summary = λ es. summary_of (declared_disks whole.world) es in
    let written : entries_written whole ≡ t = ap (λ es. take (length es - length whole.pending) es) told ∙ before_pending t whole.pending in
    ap of_parts parts_are
    ∙ (agree (last_machine disks t) whole.world.host.phases (world_quiet whole.world) t
    ∙ (ap of_disks (sym disks_are) ∙ ap of_entries (sym written)))
  where
    summary_of : List DiskSpec → List Entry → Summary
    summary_of ds es = Rattle.mpt_rules.specs.World.Summaries.summary_with (last_machine ds es) whole.world.host.phases (world_quiet whole.world) es
