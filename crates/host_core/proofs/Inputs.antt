-- What the host is asked from outside, where it is decided whether it is refused.
use Rattle.std.proofs.Common.{◌≡◌, ℕ, List, [], ◌∷◌, ◌++◌, ◌∙◌, Option, Some, None, Result, Ok, Err, OnOk, OnErr, IsErr, IsSome, append-nil, refl, sym}
use Rattle.mpt_trace.specs.declared.entry.Entry.{Entry}
use Rattle.mpt_trace.specs.declared.refusal.Refusal.{Refusal}
use Rattle.mpt_rules.specs.Host.Parts.{Host}
use Rattle.mpt_trace.specs.declared.entry.Entry.TheVariants as entry
use Rattle.mpt_rules.specs.declared.request.Request.TheVariants as request
use Rattle.scsi_disk.specs.declared.command.Command.{Command}
use Rattle.smid_pool.specs.declared.class.Class.TheVariants.{High, ScsiIo}
use Rattle.mpt_wire.specs.Messages.Fields.{target_reset}
use Rattle.mpt_rules.specs.Host.Posts.{posts_task}
use Rattle.mpt_rules.specs.Host.Inputs.{cmd_of, given, granted_unless, host_aborts, host_cause_of_abort, host_cause_of_submit, host_cause_of_target_reset, host_resets_target, host_submits, next_smid, ready_handle_at, with_abort_asked, with_accepted}
use Rattle.host_core.specs.declared.faults.HostFault.{HostFault}
use Rattle.mpt_rules.specs.Outcome.{Called}
use Rattle.host_core.specs.Driver.{Driver, IsSame}
use Rattle.host_core.specs.Faults.{refusal_by}

-- the answer of a call is refused for its cause
pub refusal-granted : (cause : Option Refusal) (host after : Host) (told : List Entry) (smid : ℕ) → refusal_by (granted_unless cause host (given after told smid)).answer ≡ cause
refusal-granted None host after told smid = refl
refusal-granted (Some cause) host after told smid = refl

told-refused : (cause : Option Refusal) (host after : Host) (told : List Entry) (smid : ℕ) → IsSome (refusal_by (granted_unless cause host (given after told smid)).answer) → (granted_unless cause host (given after told smid)).told ≡ []
told-refused None host after told smid is = absurd (cc)
told-refused (Some cause) host after told smid is = refl

-- a submission that is refused tells nothing
pub submit_refused : (host : Host) (n address : ℕ) (command : Command) → IsSome (refusal_by (host_submits host n address command).answer) → (host_submits host n address command).told ≡ []
submit_refused host n address command is =
    let smid = next_smid host ScsiIo in
    told-refused (host_cause_of_submit host n address command) host (with_accepted host n address command (ready_handle_at host address) smid) (entry.Accept n address smid ∷ []) smid is

part-refused : (cause : Option Refusal) (host after : Host) (told : List Entry) (smid : ℕ) → IsSome (refusal_by (granted_unless cause host (given after told smid)).answer) → (granted_unless cause host (given after told smid)).part ≡ host
part-refused None host after told smid is = absurd (cc)
part-refused (Some cause) host after told smid is = refl

-- and leaves the host as it was
pub submit_stays : (host : Host) (n address : ℕ) (command : Command) → IsSome (refusal_by (host_submits host n address command).answer) → (host_submits host n address command).part ≡ host
submit_stays host n address command is =
    let smid = next_smid host ScsiIo in
    part-refused (host_cause_of_submit host n address command) host (with_accepted host n address command (ready_handle_at host address) smid) (entry.Accept n address smid ∷ []) smid is

told-silent : (cause : Option Refusal) (host after : Host) (smid : ℕ) → (granted_unless cause host (given after [] smid)).told ≡ []
told-silent None host after smid = refl
told-silent (Some cause) host after smid = refl

-- nor does an abort
pub abort_silent : (host : Host) (n : ℕ) → (host_aborts host n).told ≡ []
abort_silent host n = told-silent (host_cause_of_abort host n) host (with_abort_asked host n (cmd_of host n) (next_smid host High)) (next_smid host High)

-- nor a target reset
pub target_silent : (host : Host) (address : ℕ) → (host_resets_target host address).told ≡ []
target_silent host address =
    let smid = next_smid host High in
    told-silent (host_cause_of_target_reset host address) host (posts_task host smid (request.TargetReset address) (ready_handle_at host address) target_reset 0) smid

-- a call leaves what it leaves where it is granted, and else what was
pub host_either : {A : Type 0} (r : Result A HostFault) (old new : Driver) (called : Called Host (Result ℕ Refusal)) (cause : Option Refusal) → OnOk r (new.host ≡ called.part) → OnErr r (IsSame old new) → (IsErr r → IsSome cause) → (IsSome cause → called.part ≡ old.host) → new.host ≡ called.part
host_either (Ok a) old new called cause ok same refused stays = ok
host_either (Err fault) old new called cause ok same refused stays = same.host ∙ sym (stays (refused refl))

-- and tells what it tells, and else nothing
pub told_either : {A : Type 0} (r : Result A HostFault) (old new : Driver) (called : Called Host (Result ℕ Refusal)) (cause : Option Refusal) → OnOk r (new.told ≡ old.told ++ called.told) → OnErr r (IsSame old new) → (IsErr r → IsSome cause) → (IsSome cause → called.told ≡ []) → new.told ≡ old.told ++ called.told
told_either (Ok a) old new called cause ok same refused nothing = ok
told_either (Err fault) old new called cause ok same refused nothing = rw (nothing (refused refl)) (same.told ∙ sym (append-nil old.told))

pub told_none : (old new had : List Entry) → new ≡ old → had ≡ [] → new ≡ old ++ had
told_none old new had same none = rw none (same ∙ sym (append-nil old))
