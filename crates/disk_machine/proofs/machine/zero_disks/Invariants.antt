use Rattle.std.proofs.Common.{take}
use Rattle.mpt_wire.specs.Machine.State.{disks_of}
use Rattle.disk_machine.specs.Machine.{HasDisks}
use Rattle.disk_machine.proofs.machine.zero_disks.Given as goal

abbrev pub invariant-loop-spec : goal.invariant-loop-spec
invariant-loop-spec l = HasDisks l.traced (disks_of (take l.spec-index l.disks))
