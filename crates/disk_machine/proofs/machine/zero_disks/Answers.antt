use Rattle.std.proofs.Common.{arith}
use Rattle.disk_machine.proofs.ZeroDisks.{HasDisks-next}
use Rattle.disk_machine.proofs.machine.zero_disks.Goals as goal

pub loop-spec-preserved : goal.loop-spec-preserved
loop-spec-preserved c =
    HasDisks-next c.loop-spec.traced c.add_disk.new.traced c.args.disks.now c.loop-spec.spec-index _ (omega arith) c.in_ok-add_disk.ensures c.loop-spec.invariant
