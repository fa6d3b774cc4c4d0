-- A further fact, which no other gives: the commands that are open are of bytes and of unit 0.
use Rattle.std.specs.Prelude.{◌≡◌, ℕ, Some}
use Rattle.std.specs.FinMap as finmap
use Rattle.hex.specs.Hex.{IsBytes}
use Rattle.scsi_disk.specs.declared.command.Command.{Command}
use Rattle.mpt_wire.specs.Machine.State.{OpenRequest}
use Rattle.law_facts.specs.History.{History}

abbrev pub IsPlain : Command → Type 0
IsPlain c = IsBytes c.cdb × (c.lun ≡ 0)

abbrev pub CommandsArePlain : History → Type 0
CommandsArePlain h = (n : ℕ) (r : OpenRequest) → finmap.get h.machine.requests n ≡ Some r → IsPlain r.command
