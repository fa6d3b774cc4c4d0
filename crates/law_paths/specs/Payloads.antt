-- A further fact, which no other gives: what a disk gave to an open command is at most as long as that asks for.
use Rattle.std.specs.Prelude.{◌≡◌, ◌≤◌, ℕ, length, Some}
use Rattle.std.specs.FinMap as finmap
use Rattle.scsi_disk.specs.declared.scsi_result.ScsiResult.{ScsiResult}
use Rattle.mpt_wire.specs.Machine.State.{OpenRequest}
use Rattle.law_facts.specs.History.{History}

abbrev pub PayloadsFit : History → Type 0
PayloadsFit h = (n : ℕ) (r : OpenRequest) (x : ScsiResult) → finmap.get h.machine.requests n ≡ Some r → h.machine.outcome n ≡ Some x → length x.payload ≤ r.command.len
