-- What is asked of the host from outside, and in which order it refuses.
use Rattle.std.specs.Prelude.{ℕ, Bool, true, false, not, List, [], ◌∷◌, ◌++◌, is_some, is_none, unwrap_or, if◌then◌else◌, Option, Some, None, Result, Ok, Err}
use Rattle.std.specs.FinMap as map
use Rattle.std.specs.FinSet as set
use Rattle.scsi_disk.specs.declared.command.Command.{Command}
use Rattle.scsi_disk.specs.Command.{fits}
use Rattle.smid_pool.specs.declared.class.Class.{Class}
use Rattle.smid_pool.specs.declared.class.Class.TheVariants.{High, ScsiIo}
use Rattle.smid_pool.specs.Pool.{least_free}
use Rattle.removal.specs.Handles.{ready_handle}
use Rattle.mpi_doorbell.specs.HostSteps.{diagnostic_reset, look_at_doorbell, unit_reset}
use Rattle.mpt_trace.specs.declared.entry.Entry.{Entry}
use Rattle.mpt_trace.specs.declared.entry.Entry.TheVariants as entry
use Rattle.mpt_trace.specs.declared.host_state.HostState.{HostState}
use Rattle.mpt_trace.specs.declared.host_state.HostState.TheVariants as state
use Rattle.mpt_trace.specs.declared.item.Down.TheVariants as down
use Rattle.mpt_trace.specs.declared.refusal.Refusal.{Refusal}
use Rattle.mpt_trace.specs.declared.refusal.Refusal.TheVariants as refusal
use Rattle.mpt_wire.specs.Messages.Fields.{abort_task, target_reset}
use Rattle.mpt_rules.specs.declared.request.Request.TheVariants as request
use Rattle.mpt_rules.specs.declared.stage.Stage.TheVariants as stage
use Rattle.mpt_rules.specs.Outcome.{Called}
use Rattle.mpt_rules.specs.Host.Parts.{Cmd, Host}
use Rattle.mpt_rules.specs.Host.Doorbell.{begins}
use Rattle.mpt_rules.specs.Host.Posts.{posts_command, posts_task}
use Rattle.mpt_rules.specs.Host.Resets.{with_reset_asked}
use Rattle.mpt_rules.specs.Host.Values.{looks_to_start}
use Rattle.mpt_wire.specs.Machine.Causes.{is_up}

-- a call that gives an identifier
abbrev pub given : Host → List Entry → ℕ → Called Host (Result ℕ Refusal)
given host told smid = record { part = host; told = told; answer = Ok smid }

-- a call that is refused for a cause changes nothing
abbrev pub refused : Host → Refusal → Called Host (Result ℕ Refusal)
refused host cause = record { part = host; told = []; answer = Err cause }

-- what a call that is granted does, unless there is a cause to refuse it
abbrev pub granted_unless : Option Refusal → Host → Called Host (Result ℕ Refusal) → Called Host (Result ℕ Refusal)
granted_unless (Some cause) host granted = refused host cause
granted_unless None host granted = granted

-- a call that begins something, or is refused and changes nothing
abbrev pub begun : Host → Called Host (Option Refusal)
begun host = record { part = host; told = []; answer = None }

-- it is refused
abbrev pub not_begun : Host → Refusal → Called Host (Option Refusal)
not_begun host cause = record { part = host; told = []; answer = Some cause }

-- ---- what a granted call names: a call that finds none of it is refused

-- the handle of the ready disk of an address
abbrev pub ready_handle_at : Host → ℕ → ℕ
ready_handle_at host address = unwrap_or (ready_handle host.phases address) 0

-- the least free identifier of a class
abbrev pub next_smid : Host → Class → ℕ
next_smid host class = unwrap_or (least_free class host.pool) 0

-- the open submission of a number
abbrev pub cmd_of : Host → ℕ → Cmd
cmd_of host n = unwrap_or (map.get host.cmds n) (record { smid = 0; handle = 0 })

-- ---- submissions

-- the first cause that holds
abbrev pub host_cause_of_submit : Host → ℕ → ℕ → Command → Option Refusal
host_cause_of_submit host n address command =
    if set.contains host.accepted n then Some refusal.NumberUsed
    else if not (is_up host.mode) then Some refusal.NotOperational
    else if is_none (ready_handle host.phases address) then Some refusal.NoDevice
    else if not (fits command) then Some refusal.BadLength
    else if is_none (least_free ScsiIo host.pool) then Some refusal.NoIdentifier
    else None

-- the command goes out under the identifier to the handle, and its number is used for ever
abbrev pub with_accepted : Host → ℕ → ℕ → Command → ℕ → ℕ → Host
with_accepted host n address command handle smid =
    posts_command (record host { accepted = set.insert host.accepted n; cmds = map.insert host.cmds n (record { smid = smid; handle = handle }) }) smid n handle command

-- a command is submitted for the disk of an address
abbrev pub host_submits : Host → ℕ → ℕ → Command → Called Host (Result ℕ Refusal)
host_submits host n address command =
    let handle : ℕ = ready_handle_at host address in
    let smid : ℕ = next_smid host ScsiIo in
    granted_unless (host_cause_of_submit host n address command) host
    (given (with_accepted host n address command handle smid) (entry.Accept n address smid ∷ []) smid)

-- ---- aborts

-- the first cause that holds
abbrev pub host_cause_of_abort : Host → ℕ → Option Refusal
host_cause_of_abort host n =
    if not (is_up host.mode) then Some refusal.NotOperational
    else if is_none (map.get host.cmds n) then Some refusal.NotOpen
    else if is_some (map.get host.aborts n) then Some refusal.AbortOpen
    else if is_none (least_free High host.pool) then Some refusal.NoIdentifier
    else None

-- the abort names the handle and the identifier of the command's post
abbrev pub with_abort_asked : Host → ℕ → Cmd → ℕ → Host
with_abort_asked host n cmd smid = posts_task (record host { aborts = map.insert host.aborts n smid }) smid (request.Abort n cmd.smid) cmd.handle abort_task cmd.smid

-- a submission is to be aborted
abbrev pub host_aborts : Host → ℕ → Called Host (Result ℕ Refusal)
host_aborts host n =
    let smid : ℕ = next_smid host High in
    granted_unless (host_cause_of_abort host n) host (given (with_abort_asked host n (cmd_of host n) smid) [] smid)

-- ---- target resets

-- the first cause that holds
abbrev pub host_cause_of_target_reset : Host → ℕ → Option Refusal
host_cause_of_target_reset host address =
    if not (is_up host.mode) then Some refusal.NotOperational
    else if is_none (ready_handle host.phases address) then Some refusal.NoDevice
    else if is_none (least_free High host.pool) then Some refusal.NoIdentifier
    else None

-- the disk of an address is to be reset
abbrev pub host_resets_target : Host → ℕ → Called Host (Result ℕ Refusal)
host_resets_target host address =
    let smid : ℕ = next_smid host High in
    let asked : Host = posts_task host smid (request.TargetReset address) (ready_handle_at host address) target_reset 0 in
    granted_unless (host_cause_of_target_reset host address) host (given asked [] smid)

-- ---- the start and the resets

-- only a host that is off is started: it looks at the controller
abbrev pub starts_in : Host → HostState → Called Host (Option Refusal)
starts_in host state.Off = begun (looks_to_start (record host { mode = state.Starting }))
starts_in host state.Starting = not_begun host refusal.AlreadyStarted
starts_in host state.Up = not_begun host refusal.AlreadyStarted
starts_in host state.Resetting = not_begun host refusal.AlreadyStarted

-- the host brings the controller up
abbrev pub starts : Host → Called Host (Option Refusal)
starts host = starts_in host host.mode

-- a host that is off, or resets already, doesn't
abbrev pub diag_resets_in : Host → HostState → Called Host (Option Refusal)
diag_resets_in host state.Off = not_begun host refusal.NotStarted
diag_resets_in host state.Starting = begun (with_reset_asked host stage.DiagnosticReset diagnostic_reset)
diag_resets_in host state.Up = begun (with_reset_asked host stage.DiagnosticReset diagnostic_reset)
diag_resets_in host state.Resetting = not_begun host refusal.AlreadyResetting

-- the controller is to be reset by its diagnostic register
abbrev pub diag_resets : Host → Called Host (Option Refusal)
diag_resets host = diag_resets_in host host.mode

-- only a host that is up does
abbrev pub unit_resets_in : Host → HostState → Called Host (Option Refusal)
unit_resets_in host state.Off = not_begun host refusal.NotOperational
unit_resets_in host state.Starting = not_begun host refusal.NotOperational
unit_resets_in host state.Up = begun (with_reset_asked host stage.UnitReset unit_reset)
unit_resets_in host state.Resetting = not_begun host refusal.NotOperational

-- the controller's message unit is to be reset
abbrev pub unit_resets : Host → Called Host (Option Refusal)
unit_resets host = unit_resets_in host host.mode

-- ---- the end of a session

-- the Doorbell is read once
abbrev pub looks : Host → Host
looks host = begins host stage.Look look_at_doorbell

-- the last item
abbrev pub stops : Host → Host
stops host = record host { out = host.out ++ down.Stop ∷ [] }
