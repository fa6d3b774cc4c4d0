use Rattle.std.proofs.Common.{ℕ, ◌<◌, ◌^◌}
use Rattle.std.specs.Prelude.{slice_index_or}
use Rattle.mpt_trace.specs.declared.disk_spec.DiskSpec.{DiskSpec}
use Rattle.mpt_system.proofs.making.addresses_fit.Given as goal

-- the addresses so far fit
abbrev pub invariant-loop-disk : goal.invariant-loop-disk
invariant-loop-disk l = (k : ℕ) (d : DiskSpec) → k < l.disk-index → (slice_index_or l.disks k d).address < 256 ^ 8
