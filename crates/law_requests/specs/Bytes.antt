-- What the commands of a trace are, and what is at the fabric of a record.
use Rattle.std.specs.Prelude.{◌≡◌, ℕ, All, Some}
use Rattle.std.specs.FinMap as finmap
use Rattle.hex.specs.Hex.{IsBytes}
use Rattle.scsi_disk.specs.declared.command.Command.{Command}
use Rattle.mpt_wire.specs.Machine.State.{OpenRequest}
use Rattle.mpt_rules.specs.Ioc.Tables.{request_at}
use Rattle.mpt_rules.specs.World.Lines.{out_line}
use Rattle.mpt_rules.specs.World.State.{World}
use Rattle.law_facts.specs.History.{History}
use Rattle.law_facts.specs.Messages.{OutIs, RequestIs}

-- a command of bytes, for unit 0
abbrev pub IsOfBytes : Command → Type 0
IsOfBytes command = IsBytes command.cdb × (command.lun ≡ 0)

-- each open command is one
abbrev pub CommandsAreBytes : History → Type 0
CommandsAreBytes h = (n : ℕ) (r : OpenRequest) → finmap.get h.machine.requests n ≡ Some r → IsOfBytes r.command

-- what is at the fabric of an identifier is of its record, and so is what is on its way there
pub record RequestsStand (w : World) (h : History) : Type 0 where
  pub requests : (s : ℕ) → RequestIs w h s (request_at w.ioc s)
  pub out : All (OutIs w h) (out_line w)
