use Rattle.std.proofs.Common.{◌≡◌, ◌*◌, ◌≤◌, take}
use Rattle.mpt_wire.specs.Machine.Reports.{byte_sum}
use Rattle.disk_machine.proofs.traced_disk.sum_of.Given as goal

abbrev pub invariant-loop-place : goal.invariant-loop-place
invariant-loop-place l = record { so_far : l.sum ≡ byte_sum (take l.place l.bytes); bound : l.sum ≤ 133693440 * l.place }
