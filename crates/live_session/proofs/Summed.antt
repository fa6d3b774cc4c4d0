-- The summary of a trace, where the parties ended like this.
use Rattle.std.proofs.Common.{◌≡◌, List, Result, ap, subst, ◌∙◌}
use Rattle.std.specs.Prelude.{Bool, IfOk}
use Rattle.mpt_trace.specs.declared.disk_spec.DiskSpec.{DiskSpec}
use Rattle.mpt_trace.specs.declared.entry.Entry.{Entry}
use Rattle.mpt_trace.specs.declared.summary.Summary.{Summary}
use Rattle.mpt_wire.specs.Machine.Reports.{last_machine}
use Rattle.mpt_rules.specs.Fabric.Parts.{Fabric}
use Rattle.mpt_rules.specs.Host.Parts.{Host}
use Rattle.mpt_rules.specs.Ioc.Parts.{Ioc}
use Rattle.mpt_rules.specs.World.Summaries.{summary_with}
use Rattle.disk_machine.specs.declared.parts_summary.PartsSummary.{PartsSummary}
use Rattle.disk_machine.specs.Summary.{SummariesAgree, parts_with, summary_by}
use Rattle.live_session.specs.Ended.{are_quiet}

same_summary : SummariesAgree → (disks ds : List DiskSpec) (t es : List Entry) (host : Host) (ioc : Ioc) (fabric : Fabric) (parts : PartsSummary) (quiet : Bool)
    → ds ≡ disks → es ≡ t → parts ≡ parts_with host.phases quiet → quiet ≡ are_quiet host ioc fabric
    → summary_by (last_machine ds es) parts es ≡ summary_with (last_machine disks t) host.phases (are_quiet host ioc fabric) t
same_summary agree disks ds t es host ioc fabric parts quiet disks_are entries_are parts_are quiet_is =
    ap (λ (p : PartsSummary). summary_by (last_machine ds es) p es) parts_are
    ∙ (agree (last_machine ds es) host.phases quiet es
    ∙ (ap (λ q. summary_with (last_machine ds es) host.phases q es) quiet_is
    ∙ (ap (λ d. summary_with (last_machine d es) host.phases (are_quiet host ioc fabric) es) disks_are
    ∙ ap (λ e. summary_with (last_machine disks e) host.phases (are_quiet host ioc fabric) e) entries_are)))

pub summed : {E : Type 0} (r : Result Summary E) → SummariesAgree → (disks ds : List DiskSpec) (t es : List Entry) (host : Host) (ioc : Ioc) (fabric : Fabric) (parts : PartsSummary) (quiet : Bool)
    → IfOk r (λ s. s ≡ summary_by (last_machine ds es) parts es) → ds ≡ disks → es ≡ t → parts ≡ parts_with host.phases quiet → quiet ≡ are_quiet host ioc fabric
    → IfOk r (λ s. s ≡ summary_with (last_machine disks t) host.phases (are_quiet host ioc fabric) t)
summed r agree disks ds t es host ioc fabric parts quiet h disks_are entries_are parts_are quiet_is =
    subst (λ x. IfOk r (λ s. s ≡ x)) (same_summary agree disks ds t es host ioc fabric parts quiet disks_are entries_are parts_are quiet_is) h
