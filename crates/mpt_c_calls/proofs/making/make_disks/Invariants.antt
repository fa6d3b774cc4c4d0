use Rattle.std.proofs.Common.{◌≡◌, map, take}
use Rattle.mpt_c_calls.specs.Making.{zero_disk_of}
use Rattle.mpt_c_calls.proofs.making.make_disks.Given as goal

-- the disks so far are made
abbrev pub invariant-loop-spec : goal.invariant-loop-spec
invariant-loop-spec l = l.disks.items ≡ map zero_disk_of (take l.spec-index l.specs)
