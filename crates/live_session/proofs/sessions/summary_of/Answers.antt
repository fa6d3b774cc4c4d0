use Rattle.std.proofs.Common.{◌≤◌, List, length, subst, sym, arith}
use Rattle.std.specs.Prelude.{All}
use Rattle.mpt_trace.specs.declared.disk_spec.DiskSpec.{DiskSpec}
use Rattle.disk_machine.specs.Machine.{IsDiskSize}
use Rattle.live_session.proofs.Summed.{summed}
use Rattle.live_session.proofs.sessions.summary_of.Goals as goal

pub summary_of_trace-requires : goal.summary_of_trace-requires
summary_of_trace-requires c =
    record {
      few = subst (λ (ds : List DiskSpec). length ds ≤ 255) (sym c.disks.ensures) (let n = c.requires.setting.few_disks in omega (arith, n));
      sizes = subst (λ (ds : List DiskSpec). All IsDiskSize ds) (sym c.disks.ensures) c.requires.setting.blocks;
    }

pub returns : goal.returns
returns c =
    summed c.summary_of_trace.result c.summaries_agree.ensures c.args.plan.now.disks c.disks.result.now c.args.trace.now.entries c.as_slice-entries.result.now
    c.args.host.now.host c.args.ioc.now.part c.args.fabric.now c.phases_summary-parts.result c.are_quiet.result
    c.summary_of_trace.ensures c.disks.ensures c.as_slice-entries.ensures c.phases_summary-parts.ensures c.are_quiet.ensures
