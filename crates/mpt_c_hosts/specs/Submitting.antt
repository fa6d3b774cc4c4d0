-- A command, as C submits it.
use Rattle.std.specs.Prelude.{◌≡◌, ℕ, List, length, nat_le, ◌&&◌, Option, Some, None, if◌then◌else◌}
use Rattle.scsi_disk.specs.declared.command.Command.{Command}
use Rattle.mpt_rules.specs.Host.Takes.{host_submits}
use Rattle.mpt_c_messages.specs.declared.call_code.CallCode.{CallCode}
use Rattle.mpt_c_messages.specs.declared.call_code.CallCode.TheVariants as code
use Rattle.host_core.specs.Driver.{Driver, IsSame}
use Rattle.mpt_c_hosts.specs.declared.submitting.SubmitHead.{SubmitHead}
use Rattle.mpt_c_hosts.specs.Asking.{BeginsAs, Stays}

-- the command, where its CDB has at most 32 bytes and its data at most 4,096
abbrev pub command_of : SubmitHead → List ℕ → List ℕ → Option Command
command_of head cdb bytes =
    if nat_le (length cdb) 32 && nat_le (length bytes) 4096
    then Some (record { lun = head.lun; cdb = cdb; len = head.length; payload = bytes })
    else None

-- it is submitted, by the rule. NoSuch: its CDB or its data is too long, and nothing changed
abbrev pub Submits : Driver → Driver → SubmitHead → Option Command → ℕ → ℕ → ℕ → ℕ → CallCode → Type 0
Submits old new head None smid smid' cause cause' answer =
    (answer ≡ code.NoSuch) × Stays smid smid' × Stays cause cause' × IsSame old new
Submits old new head (Some command) smid smid' cause cause' answer =
    BeginsAs old new smid smid' cause cause' (host_submits old.host head.number head.address command) answer
