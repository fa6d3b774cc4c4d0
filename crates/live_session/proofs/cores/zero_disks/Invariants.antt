use Rattle.std.proofs.Common.{◌≡◌, map, take}
use Rattle.sas_fabric.specs.Making.{zero_disk}
use Rattle.live_session.proofs.cores.zero_disks.Given as goal

abbrev pub invariant-loop-spec : goal.invariant-loop-spec
invariant-loop-spec l = l.disks.items ≡ map zero_disk (take l.spec-index l.specs)
