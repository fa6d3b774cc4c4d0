-- What the host answers to an input is what the rules say, and so are the entries.
use Rattle.std.proofs.Common.{◌≡◌, ℕ, List, [], ◌∷◌, ◌++◌, Option, Some, None, Result, Ok, Err, inr, refl, sym, ap, ◌∙◌, append-nil, append_assoc}
use Rattle.std.specs.Prelude.{IfOk, IsErr, IsOk, MatchOption, OnErr, OnOk, option_to_list}
use Rattle.std.specs.Option.{option_map}
use Rattle.host_core.specs.Driver.{Driver, IsSame}
use Rattle.host_core.specs.Faults.{refusal_by, refusal_in}
use Rattle.host_core.specs.declared.faults.HostFault.{HostFault}
use Rattle.scsi_disk.specs.declared.command.Command.{Command}
use Rattle.smid_pool.specs.declared.class.Class.TheVariants.{High}
use Rattle.mpt_trace.specs.Command.{command_named}
use Rattle.mpt_trace.specs.declared.entry.Entry.{Entry}
use Rattle.mpt_trace.specs.declared.entry.Entry.TheVariants as entry
use Rattle.mpt_trace.specs.declared.host_state.HostState.{HostState}
use Rattle.mpt_trace.specs.declared.host_state.HostState.TheVariants as state
use Rattle.mpt_trace.specs.declared.input.Input.{Input}
use Rattle.mpt_trace.specs.declared.input.Input.TheVariants as input
use Rattle.mpt_trace.specs.declared.refusal.Refusal.{Refusal}
use Rattle.mpt_rules.specs.Host.Inputs.{cmd_of, diag_resets_in, host_aborts, host_submits, next_smid, with_abort_asked, granted_unless, host_cause_of_abort, host_cause_of_submit, host_cause_of_target_reset, starts_in, unit_resets_in}
use Rattle.mpt_rules.specs.Host.Parts.{Host}
use Rattle.mpt_rules.specs.Outcome.{Called, Happening}
use Rattle.mpt_rules.specs.World.Cases.{tells}
use Rattle.mpt_rules.specs.World.Inputs.{cause_of}
use Rattle.mpt_rules.specs.World.State.{World}
use Rattle.mpt_system.specs.Asking.{HasAsked, IsToHost, host_asked, refusal_entry, without_smid}
use Rattle.mpt_system.specs.Whole.{HasDone, Stays, Whole, written}

-- ---- a call that answers with an identifier or with a cause

-- a refused call changes nothing and tells nothing
pub record RefusesSilently (host : Host) (called : Called Host (Result ℕ Refusal)) : Type 0 where
  pub part : (cause : Refusal) → called.answer ≡ Err cause → called.part ≡ host
  pub told : (cause : Refusal) → called.answer ≡ Err cause → called.told ≡ []

pub granted_refuses : (o : Option Refusal) (host : Host) (called : Called Host (Result ℕ Refusal)) → ((cause : Refusal) → called.answer ≡ Err cause → called.part ≡ host)
    → ((cause : Refusal) → called.answer ≡ Err cause → called.told ≡ []) → RefusesSilently host (granted_unless o host called)
granted_refuses None host called p t = record { part = p; told = t }
granted_refuses (Some cause) host called p t = record { part = λ k e. refl; told = λ k e. refl }

-- what the call answered, as a cause or none
same_cause : (r : Result ℕ Refusal) → refusal_by r ≡ cause_of r
same_cause (Ok smid) = refl
same_cause (Err cause) = refl

refused_by : (r : Result ℕ Refusal) (cause : Refusal) → Some cause ≡ cause_of r → r ≡ Err cause
refused_by (Ok smid) cause e = cc
refused_by (Err k) cause e = cc

module _ {E : Type 0} (old new : Driver) (called : Called Host (Result ℕ Refusal)) (silent : RefusesSilently old.host called) where
  pub asked_by_smid : (r : Result ℕ HostFault) (x : Result (Option Refusal) E) → refusal_in r ≡ refusal_by called.answer → OnOk r (new.host ≡ called.part)
      → OnOk r (new.told ≡ old.told ++ called.told) → OnErr r (IsSame old new) → IfOk x (λ cause. cause ≡ refusal_in r)
      → IfOk x (λ cause. MatchOption cause (IsOk r) (λ _. IsErr r)) → OnErr x (IsErr r) → HasAsked old (without_smid called) x new
  asked_by_smid (Ok smid) (Ok cause) refused host told stays is granted memory = (is ∙ (refused ∙ same_cause called.answer), host, told)
  asked_by_smid (Ok smid) (Err error) refused host told stays is granted memory = absurd (cc)
  asked_by_smid (Err fault) (Ok None) refused host told stays is granted memory = absurd (cc)
  asked_by_smid (Err fault) (Ok (Some cause)) refused host told stays is granted memory =
      let caused : Some cause ≡ cause_of called.answer = is ∙ (refused ∙ same_cause called.answer) in
      let by : called.answer ≡ Err cause = refused_by called.answer cause caused in
      (caused, stays.host ∙ sym (silent.part cause by), stays.told ∙ (sym (append-nil old.told) ∙ ap (λ ts. old.told ++ ts) (sym (silent.told cause by))))
  asked_by_smid (Err fault) (Err error) refused host told stays is granted memory = stays

-- a fact holds whatever was answered
pub on_ok : {A E : Type 0} (r : Result A E) (P : Type 0) → P → OnOk r P
on_ok (Ok done) P p = p
on_ok (Err error) P p = tt

-- an abort tells nothing
pub abort_silent : (host : Host) (n : ℕ) → (host_aborts host n).told ≡ []
abort_silent host n = by_cause (host_cause_of_abort host n) host (with_abort_asked host n (cmd_of host n) (next_smid host High)) (next_smid host High)
  where
    by_cause : (o : Option Refusal) (host after : Host) (smid : ℕ) → (granted_unless o host (record { part = after; told = []; answer = Ok smid })).told ≡ []
    by_cause None host after smid = refl
    by_cause (Some cause) host after smid = refl

-- a submission and an abort that are refused change nothing
pub submit_refuses : (host : Host) (n address : ℕ) (command : Command) → RefusesSilently host (host_submits host n address command)
submit_refuses host n address command = granted_refuses (host_cause_of_submit host n address command) host _ (λ cause e. cc) (λ cause e. cc)

pub abort_refuses : (host : Host) (n : ℕ) → RefusesSilently host (host_aborts host n)
abort_refuses host n = granted_refuses (host_cause_of_abort host n) host _ (λ cause e. cc) (λ cause e. cc)

-- ---- the entries

-- a refused input is told nothing of
start_silent : (host : Host) (s : HostState) (cause : Refusal) → (starts_in host s).answer ≡ Some cause → (starts_in host s).told ≡ []
start_silent host state.Off cause e = refl
start_silent host state.Starting cause e = refl
start_silent host state.Up cause e = refl
start_silent host state.Resetting cause e = refl

reset_silent : (host : Host) (s : HostState) (cause : Refusal) → (diag_resets_in host s).answer ≡ Some cause → (diag_resets_in host s).told ≡ []
reset_silent host state.Off cause e = refl
reset_silent host state.Starting cause e = refl
reset_silent host state.Up cause e = refl
reset_silent host state.Resetting cause e = refl

unit_silent : (host : Host) (s : HostState) (cause : Refusal) → (unit_resets_in host s).answer ≡ Some cause → (unit_resets_in host s).told ≡ []
unit_silent host state.Off cause e = refl
unit_silent host state.Starting cause e = refl
unit_silent host state.Up cause e = refl
unit_silent host state.Resetting cause e = refl

granted_silent : (o : Option Refusal) (host after : Host) (told : List Entry) (smid : ℕ) (cause : Refusal)
    → (without_smid (granted_unless o host (record { part = after; told = told; answer = Ok smid }))).answer ≡ Some cause
    → (granted_unless o host (record { part = after; told = told; answer = Ok smid })).told ≡ []
granted_silent None host after told smid cause e = cc
granted_silent (Some k) host after told smid cause e = refl

refused_silent : (host : Host) (i : Input) (cause : Refusal) → (host_asked host i).answer ≡ Some cause → (host_asked host i).told ≡ []
refused_silent host input.Start cause e = start_silent host host.mode cause e
refused_silent host (input.Submit n address form) cause e = granted_silent (host_cause_of_submit host n address (command_named form)) host _ _ _ cause e
refused_silent host (input.Abort n) cause e = granted_silent (host_cause_of_abort host n) host _ _ _ cause e
refused_silent host (input.TargetReset address) cause e = granted_silent (host_cause_of_target_reset host address) host _ _ _ cause e
refused_silent host input.Reset cause e = reset_silent host host.mode cause e
refused_silent host input.UnitReset cause e = unit_silent host host.mode cause e
refused_silent host (input.Plug address expander phy) cause e = refl
refused_silent host (input.Unplug address) cause e = refl

-- the entry of the input and of its refusal, and then what was told
abbrev pub entered : Input → Option Refusal → List Entry → List Entry
entered i cause told = (entry.Given i ∷ option_to_list (option_map (refusal_entry i) cause)) ++ told

-- what happens where an input is told to the host
abbrev pub told_to_host : World → Input → Happening World
told_to_host w i =
    record { part = record w { host = (host_asked w.host i).part }; entries = entered i (host_asked w.host i).answer (host_asked w.host i).told }

by_answer : (i : Input) (o : Option Refusal) (told : List Entry) → ((cause : Refusal) → o ≡ Some cause → told ≡ [])
    → entered i o told ≡ entry.Given i ∷ Rattle.mpt_rules.specs.World.Inputs.refused_or (refusal_entry i) o told
by_answer i None told silent = refl
by_answer i (Some cause) told silent = rw (silent cause refl) refl

pub tells_host : (w : World) (i : Input) → IsToHost i → tells w i ≡ told_to_host w i
tells_host w input.Start h = ap (λ es. record { part = record w { host = (host_asked w.host input.Start).part }; entries = es }) (sym (by_answer input.Start _ _ (refused_silent w.host input.Start)))
tells_host w (input.Submit n address form) h = let i : Input = input.Submit n address form in
    ap (λ es. record { part = record w { host = (host_asked w.host i).part }; entries = es }) (sym (by_answer i (host_asked w.host i).answer (host_asked w.host i).told (refused_silent w.host i)))
tells_host w (input.Abort n) h = let i : Input = input.Abort n in
    ap (λ es. record { part = record w { host = (host_asked w.host i).part }; entries = es }) (sym (by_answer i (host_asked w.host i).answer (host_asked w.host i).told (refused_silent w.host i)))
tells_host w (input.TargetReset address) h = let i : Input = input.TargetReset address in
    ap (λ es. record { part = record w { host = (host_asked w.host i).part }; entries = es }) (sym (by_answer i (host_asked w.host i).answer (host_asked w.host i).told (refused_silent w.host i)))
tells_host w input.Reset h = ap (λ es. record { part = record w { host = (host_asked w.host input.Reset).part }; entries = es }) (sym (by_answer input.Reset _ _ (refused_silent w.host input.Reset)))
tells_host w input.UnitReset h = ap (λ es. record { part = record w { host = (host_asked w.host input.UnitReset).part }; entries = es }) (sym (by_answer input.UnitReset _ _ (refused_silent w.host input.UnitReset)))
tells_host w (input.Plug address expander phy) h = absurd h
tells_host w (input.Unplug address) h = absurd h

-- ---- what was told is written

-- all has happened, and what of it is pending is written, or stays so
pub done_written : {A E : Type 0} (old middle new : Whole) (o : Happening World) (r : Result A E) → middle.world ≡ o.part → middle.entries ≡ old.entries ++ o.entries
    → OnOk r (new ≡ written middle) → OnErr r (Stays middle new) → HasDone old o r new
done_written old middle new o (Ok done) w t ok err = cc
done_written old middle new o (Err error) w t ok err = inr (record { world = err.world ∙ w; entries = err.entries ∙ t })

-- what is behind the trace stays behind what is entered
pub more_told : (before behind old new told xs ts : List Entry) → behind ≡ before ++ xs → new ≡ old ++ ts → old ≡ [] → told ≡ []
    → behind ++ (new ++ told) ≡ (before ++ (old ++ told)) ++ (xs ++ ts)
more_told before behind old new told xs ts e f g h = rw (e, f, g, h) (simp (append-nil, append_assoc))
