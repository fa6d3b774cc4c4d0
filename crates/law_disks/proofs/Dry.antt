-- Entries that change no disk of the machine: all but a run, a plug and an unplug.
use Rattle.std.proofs.Common.{◌≡◌, ℕ, ◌==◌, ◌&&◌, Bool, true, false, if◌then◌else◌, List, [], ◌∷◌, ◌++◌, Option, Some, None, refl, ap, ◌∙◌, sym, subst}
use Rattle.std.specs.FinSet as finset
use Rattle.removal.specs.Handles.{ready_handle}
use Rattle.scsi_disk.specs.Command.{fits}
use Rattle.scsi_disk.specs.declared.command.Command.{Command}
use Rattle.smid_pool.specs.Pool.{least_free}
use Rattle.smid_pool.specs.declared.class.Class.TheVariants as class
use Rattle.mpt_wire.specs.Machine.Calls.{call_of, is_call_answered, is_call_refused, submitted, refused_submit, refused_call}
use Rattle.mpt_wire.specs.Machine.Causes as calls
use Rattle.mpt_wire.specs.Machine.Causes.{Call, is_up}
use Rattle.mpt_wire.specs.Machine.SoFar.{SoFar}
use Rattle.mpt_wire.specs.Machine.State.{Machine}
use Rattle.mpt_wire.specs.Machine.Steps.{Fails, Grants, Refuses, accepted, after_abort_end, after_all}
use Rattle.mpt_wire.specs.Machine.View.{Seen, seen_next, step_if, steps_of}
use Rattle.mpt_wire.specs.Walks.Ahead.{next_own, state_ahead}
use Rattle.mpt_wire.specs.Walks.Passes.{EachEntry}
use Rattle.mpt_trace.specs.Command.{command_named}
use Rattle.mpt_trace.specs.declared.entry.Entry.{Entry}
use Rattle.mpt_trace.specs.declared.entry.Entry.TheVariants as entry
use Rattle.mpt_trace.specs.declared.host_state.HostState.{HostState}
use Rattle.mpt_trace.specs.declared.host_state.HostState.TheVariants as state
use Rattle.mpt_trace.specs.declared.input.Input.{Input}
use Rattle.mpt_trace.specs.declared.input.Input.TheVariants as input
use Rattle.mpt_trace.specs.declared.outcome.AbortOutcome.{AbortOutcome}
use Rattle.mpt_trace.specs.declared.outcome.AbortOutcome.TheVariants as abort
use Rattle.mpt_trace.specs.declared.refusal.Refusal.{Refusal}
use Rattle.mpt_trace.specs.declared.refusal.RefusedCall.TheVariants as refused
use Rattle.mpt_rules.specs.Host.Inputs as inputs
use Rattle.mpt_rules.specs.Host.Parts.{Cmd, Host}
use Rattle.mpt_rules.specs.World.Inputs.{by_option, by_result, host_told}
use Rattle.mpt_rules.proofs.HostCalls.{aborts_by, resets_target_by, submits_by}
use Rattle.mpt_rules.specs.Host.Takes.{hears_up}
use Rattle.mpt_trace.specs.declared.item.Up.{Up}
use Rattle.law_moves.proofs.Cases.{IsHosts}
use Rattle.law_moves.proofs.HostWords.{EndsIt, HostTells, IsHostWord, Words, host_tells}
use Rattle.law_machine.proofs.Silent.{IsSilent}
use Rattle.law_disks.proofs.Takes.{take_leaves}

abbrev pub IsDry : Entry → Type 0
IsDry (entry.Given (input.Plug address expander phy)) = ⊥
IsDry (entry.Given (input.Unplug address)) = ⊥
IsDry (entry.Run address smid) = ⊥
IsDry e = Unit {0}

abbrev Same : Machine → Machine → Type 0
Same m o = o.disks ≡ m.disks

-- ---- one entry

granted : (m : Machine) (c : Call) (b : Bool) → Same m (after_all m (Grants c ∷ [])) → Same m (after_all m (if b then [] else Grants c ∷ []))
granted m c true s = refl
granted m c false s = s

given : (m : Machine) (i : Input) (ahead : Option Entry) → IsDry (entry.Given i) → Same m (after_all m (Rattle.mpt_wire.specs.Machine.View.given_steps (call_of i) ahead))
given m input.Start ahead d = granted m calls.Start (is_call_refused calls.Start ahead) refl
given m (input.Submit n a form) ahead d = by_test (is_call_answered n ahead)
  where
    by_test : (b : Bool) → Same m (after_all m (if b then [] else Fails ∷ []))
    by_test true = refl
    by_test false = refl
given m (input.Abort n) ahead d = granted m (calls.Abort n) (is_call_refused (calls.Abort n) ahead) refl
given m (input.TargetReset a) ahead d = granted m (calls.TargetReset a) (is_call_refused (calls.TargetReset a) ahead) refl
given m input.Reset ahead d = granted m calls.Reset (is_call_refused calls.Reset ahead) refl
given m input.UnitReset ahead d = granted m calls.UnitReset (is_call_refused calls.UnitReset ahead) refl
given m (input.Plug a e p) ahead d = absurd d
given m (input.Unplug a) ahead d = absurd d

opened : (m : Machine) (n a : ℕ) (c : Command) (o : Option ℕ) → Same m (accepted m n a c o)
opened m n a c None = refl
opened m n a c (Some plug) = refl

submits : (m : Machine) (o : Option Call) (n a : ℕ) → Same m (after_all m (step_if (submitted o n a) Grants ∷ []))
submits m None n a = refl
submits m (Some (calls.Submit k b c)) n a = by_test (k == n && b == a)
  where
    by_test : (t : Bool) → Same m (after_all m (step_if (if t then Some (calls.Submit k b c) else None) Grants ∷ []))
    by_test true = opened m k b c (m.ready b)
    by_test false = refl
submits m (Some calls.Start) n a = refl
submits m (Some (calls.Abort k)) n a = refl
submits m (Some (calls.TargetReset b)) n a = refl
submits m (Some calls.Reset) n a = refl
submits m (Some calls.UnitReset) n a = refl
submits m (Some (calls.Plug b place)) n a = refl
submits m (Some (calls.Unplug b)) n a = refl

pub refuses : (m : Machine) (o : Option Call) (c : Refusal) → after_all m (step_if o (λ call. Refuses call c) ∷ []) ≡ m
refuses m None c = refl
refuses m (Some call) c = refl

ends : (m : Machine) (n : ℕ) (how : AbortOutcome) → Same m (after_abort_end m n how)
ends m n abort.Stopped = refl
ends m n abort.NotFound = refl
ends m n abort.Reset = refl

readied : (m : Machine) (a : ℕ) (o : Option ℕ) → Same m (after_all m (step_if o (λ k. Rattle.mpt_wire.specs.Machine.Steps.GetsReady a k) ∷ []))
readied m a None = refl
readied m a (Some k) = refl

dry_entry : (m : Machine) (g : SoFar) (e : Entry) (ahead : Option Entry) → IsDry e → Same m (after_all m (steps_of g e ahead))
dry_entry m g (entry.Given i) ahead d = given m i ahead d
dry_entry m g (entry.Take l x) ahead d = let t = take_leaves m g l x ahead in ap (λ (o : Machine). o.disks) t.1
dry_entry m g (entry.Run a s) ahead d = absurd d
dry_entry m g (entry.Accept n a s) ahead d = submits m g.host_call n a
dry_entry m g (entry.RefuseSubmit n c) ahead d = ap (λ (o : Machine). o.disks) (refuses m (refused_submit g.host_call n) c)
dry_entry m g (entry.Refuse call c) ahead d = ap (λ (o : Machine). o.disks) (refuses m (refused_call g.fabric_call call) c)
dry_entry m g (entry.Ready a h) ahead d = readied m a (g.plug_of h)
dry_entry m g (entry.AbortEnd n how) ahead d = ends m n how
dry_entry m g entry.HostUp ahead d = refl
dry_entry m g (entry.Lost a h) ahead d = refl
dry_entry m g (entry.Answer n how) ahead d = refl
dry_entry m g (entry.TargetEnd a how) ahead d = refl
dry_entry m g entry.ResetDone ahead d = refl
dry_entry m g (entry.Idle x) ahead d = refl
dry_entry m g (entry.Put l x) ahead d = refl
dry_entry m g (entry.Bind h a k) ahead d = refl
dry_entry m g (entry.Unbind h) ahead d = refl
dry_entry m g entry.UnbindAll ahead d = refl

pub dry_disks : (g : Seen) (t : List Entry) → EachEntry IsDry t → (state_ahead seen_next g t []).machine.disks ≡ g.machine.disks
dry_disks g [] d = refl
dry_disks g (e ∷ t) d = dry_disks (seen_next g e (next_own e (t ++ []))) t d.1 ∙ dry_entry g.machine g.so_far e (next_own e (t ++ [])) d.0

-- ---- what is told is dry

silent_dry : (e : Entry) → IsSilent e → IsDry e
silent_dry (entry.Given i) w = absurd w
silent_dry (entry.Run a s) w = absurd w
silent_dry _ w = tt

pub silents_dry : (t : List Entry) → EachEntry IsSilent t → EachEntry IsDry t
silents_dry [] w = tt
silents_dry (e ∷ t) w = (silent_dry e w.0, silents_dry t w.1)

word_dry : (e : Entry) → IsHostWord e → IsDry e
word_dry (entry.Given i) w = absurd w
word_dry (entry.Run a s) w = absurd w
word_dry _ w = tt

words_dry : (t : List Entry) → EachEntry IsHostWord t → EachEntry IsDry t
words_dry [] w = tt
words_dry (e ∷ t) w = (word_dry e w.0, words_dry t w.1)

dry_end : (t : List Entry) → EachEntry IsHostWord t → EachEntry IsDry (t ++ entry.ResetDone ∷ [])
dry_end [] w = (tt, tt)
dry_end (e ∷ t) w = (word_dry e w.0, dry_end t w.1)

tells_dry : (t : List Entry) → HostTells t → EachEntry IsDry t
tells_dry t (Words w) = words_dry t w
tells_dry t (EndsIt told w e) = subst (EachEntry IsDry) (sym e) (dry_end told w)

pub item_dry : (host : Host) (queue : ℕ) (x : Up) → EachEntry IsDry (hears_up host queue x).entries
item_dry host queue x = tells_dry (hears_up host queue x).entries (host_tells host queue x)

submit_dry : (host : Host) (n a : ℕ) (command : Command) (i : Input) → IsDry (entry.Given i) → (used up : Bool) (handle : Option ℕ) (fit : Bool) (least : Option ℕ)
    → EachEntry IsDry (by_result i (entry.RefuseSubmit n) (submits_by host n a command used up handle fit least)).entries
submit_dry host n a command i g true up handle fit least = (g, (tt, tt))
submit_dry host n a command i g false false handle fit least = (g, (tt, tt))
submit_dry host n a command i g false true None fit least = (g, (tt, tt))
submit_dry host n a command i g false true (Some x) false least = (g, (tt, tt))
submit_dry host n a command i g false true (Some x) true None = (g, (tt, tt))
submit_dry host n a command i g false true (Some x) true (Some s) = (g, (tt, tt))

abort_dry : (host : Host) (n : ℕ) (up : Bool) (c : Option Cmd) (there least : Option ℕ) → EachEntry IsDry (by_result (input.Abort n) (entry.Refuse (refused.Abort n)) (aborts_by host n up c there least)).entries
abort_dry host n false c there least = (tt, (tt, tt))
abort_dry host n true None there least = (tt, (tt, tt))
abort_dry host n true (Some c) (Some x) least = (tt, (tt, tt))
abort_dry host n true (Some c) None None = (tt, (tt, tt))
abort_dry host n true (Some c) None (Some s) = (tt, tt)

target_dry : (host : Host) (a : ℕ) (up : Bool) (handle least : Option ℕ) → EachEntry IsDry (by_result (input.TargetReset a) (entry.Refuse (refused.TargetReset a)) (resets_target_by host a up handle least)).entries
target_dry host a false handle least = (tt, (tt, tt))
target_dry host a true None least = (tt, (tt, tt))
target_dry host a true (Some x) None = (tt, (tt, tt))
target_dry host a true (Some x) (Some s) = (tt, tt)

start_dry : (host : Host) (m : HostState) → EachEntry IsDry (by_option input.Start refused.Start (inputs.starts_in host m)).entries
start_dry host state.Off = (tt, tt)
start_dry host state.Starting = (tt, (tt, tt))
start_dry host state.Up = (tt, (tt, tt))
start_dry host state.Resetting = (tt, (tt, tt))

diag_dry : (host : Host) (m : HostState) → EachEntry IsDry (by_option input.Reset refused.Reset (inputs.diag_resets_in host m)).entries
diag_dry host state.Off = (tt, (tt, tt))
diag_dry host state.Starting = (tt, tt)
diag_dry host state.Up = (tt, tt)
diag_dry host state.Resetting = (tt, (tt, tt))

unit_dry : (host : Host) (m : HostState) → EachEntry IsDry (by_option input.UnitReset refused.UnitReset (inputs.unit_resets_in host m)).entries
unit_dry host state.Off = (tt, (tt, tt))
unit_dry host state.Starting = (tt, (tt, tt))
unit_dry host state.Up = (tt, tt)
unit_dry host state.Resetting = (tt, (tt, tt))

pub input_dry : (host : Host) (i : Input) → IsHosts i → EachEntry IsDry (host_told host i).entries
input_dry host input.Start k = start_dry host host.mode
input_dry host (input.Submit n a form) k = submit_dry host n a (command_named form) (input.Submit n a form) tt (finset.contains host.accepted n) (is_up host.mode) (ready_handle host.phases a) (fits (command_named form)) (least_free class.ScsiIo host.pool)
input_dry host (input.Abort n) k = abort_dry host n (is_up host.mode) (Rattle.std.specs.FinMap.get host.cmds n) (Rattle.std.specs.FinMap.get host.aborts n) (least_free class.High host.pool)
input_dry host (input.TargetReset a) k = target_dry host a (is_up host.mode) (ready_handle host.phases a) (least_free class.High host.pool)
input_dry host input.Reset k = diag_dry host host.mode
input_dry host input.UnitReset k = unit_dry host host.mode
input_dry host (input.Plug a e p) k = absurd k
input_dry host (input.Unplug a) k = absurd k
