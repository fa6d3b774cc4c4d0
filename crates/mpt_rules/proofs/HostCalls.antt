-- What the host is asked, decided test by test: each call is one of these at what it finds.
use Rattle.std.specs.Prelude.{ℕ, Bool, true, false, not, [], ◌∷◌, is_some, is_none, unwrap_or, if◌then◌else◌, Option, Some, None, Result}
use Rattle.scsi_disk.specs.declared.command.Command.{Command}
use Rattle.mpt_trace.specs.declared.entry.Entry.TheVariants as entry
use Rattle.mpt_trace.specs.declared.refusal.Refusal.{Refusal}
use Rattle.mpt_trace.specs.declared.refusal.Refusal.TheVariants as refusal
use Rattle.mpt_wire.specs.Messages.Fields.{target_reset}
use Rattle.mpt_rules.specs.declared.request.Request.TheVariants as request
use Rattle.mpt_rules.specs.Outcome.{Called}
use Rattle.mpt_rules.specs.Host.Parts.{Cmd, Host}
use Rattle.mpt_rules.specs.Host.Posts.{posts_task}
use Rattle.mpt_rules.specs.Host.Inputs.{with_accepted, with_abort_asked, given, granted_unless}

-- a submission: whether its number was used, whether the host is up, the disk's handle, whether the command fits, and
-- the least free identifier
abbrev pub submits_by : Host → ℕ → ℕ → Command → Bool → Bool → Option ℕ → Bool → Option ℕ → Called Host (Result ℕ Refusal)
submits_by host n address command used up handle fits smid =
    granted_unless
    (if used then Some refusal.NumberUsed
    else if not up then Some refusal.NotOperational
    else if is_none handle then Some refusal.NoDevice
    else if not fits then Some refusal.BadLength
    else if is_none smid then Some refusal.NoIdentifier
    else None)
    host
    (given (with_accepted host n address command (unwrap_or handle 0) (unwrap_or smid 0)) (entry.Accept n address (unwrap_or smid 0) ∷ []) (unwrap_or smid 0))

-- an abort: whether the host is up, the open submission, the open abort that names it, and the least free identifier
abbrev pub aborts_by : Host → ℕ → Bool → Option Cmd → Option ℕ → Option ℕ → Called Host (Result ℕ Refusal)
aborts_by host n up cmd abort smid =
    granted_unless
    (if not up then Some refusal.NotOperational
    else if is_none cmd then Some refusal.NotOpen
    else if is_some abort then Some refusal.AbortOpen
    else if is_none smid then Some refusal.NoIdentifier
    else None)
    host
    (given (with_abort_asked host n (unwrap_or cmd (record { smid = 0; handle = 0 })) (unwrap_or smid 0)) [] (unwrap_or smid 0))

-- a target reset: whether the host is up, the disk's handle, and the least free identifier
abbrev pub resets_target_by : Host → ℕ → Bool → Option ℕ → Option ℕ → Called Host (Result ℕ Refusal)
resets_target_by host address up handle smid =
    granted_unless
    (if not up then Some refusal.NotOperational
    else if is_none handle then Some refusal.NoDevice
    else if is_none smid then Some refusal.NoIdentifier
    else None)
    host
    (given (posts_task host (unwrap_or smid 0) (request.TargetReset address) (unwrap_or handle 0) target_reset 0) [] (unwrap_or smid 0))
