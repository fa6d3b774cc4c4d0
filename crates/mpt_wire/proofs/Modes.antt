-- In a view that is a run, what the trace calls a reset on its way is the machine's.
use Rattle.std.proofs.Common.{◌≡◌, ℕ, ◌==◌, ◌&&◌, ◌||◌, not, Bool, true, false, if◌then◌else◌, List, [], ◌∷◌, ◌++◌, Option, Some, None, refl, sym, ap, ◌∙◌}
use Rattle.std.specs.FinMap as finmap
use Rattle.mpt_trace.specs.declared.host_state.HostState.{HostState}
use Rattle.mpt_trace.specs.declared.host_state.HostState.TheVariants as state
use Rattle.mpt_trace.specs.declared.input.Input.{Input}
use Rattle.mpt_trace.specs.declared.input.Input.TheVariants as input
use Rattle.mpt_trace.specs.declared.refusal.Refusal.TheVariants as refusal
use Rattle.mpt_trace.specs.declared.outcome.AbortOutcome.{AbortOutcome}
use Rattle.mpt_trace.specs.declared.outcome.AbortOutcome.TheVariants as abort
use Rattle.scsi_disk.specs.declared.command.Command.{Command}
use Rattle.mpt_wire.specs.Machine.State.{Machine, MachineDisk, OpenRequest}
use Rattle.mpt_wire.specs.Machine.Causes as calls
use Rattle.mpt_wire.specs.Machine.Causes.{Call, is_off, is_resetting, first_cause, cause_of_start}
use Rattle.mpt_trace.specs.declared.lane.LaneName.TheVariants as lane
use Rattle.mpt_trace.specs.declared.item.Item.{Item}
use Rattle.mpt_trace.specs.declared.item.Item.TheVariants as item
use Rattle.mpt_trace.specs.declared.item.Down.TheVariants as down
use Rattle.mpt_trace.specs.declared.item.Up.TheVariants as up
use Rattle.mpt_trace.specs.declared.entry.Entry.{Entry}
use Rattle.mpt_trace.specs.declared.entry.Entry.TheVariants as entry
use Rattle.mpt_wire.specs.Messages.Fields.{Change, changes_in, smid_in, target_not_responding}
use Rattle.mpt_wire.specs.Machine.Calls.{call_of, is_call_refused, is_call_answered, submitted, refused_submit, refused_call}
use Rattle.mpt_wire.specs.Machine.SoFar.{SoFar, so_far_next, announced_next, is_reset_asked, after_put}
use Rattle.mpt_wire.specs.Machine.View.{Seen, SeenAsks, seen_next, steps_of, step_if, given_steps, departures, let_go, is_target_end, heard_steps}
use Rattle.mpt_wire.specs.Machine.Steps.{Step, Grants, Refuses, GetsUp, Runs, Answers, EndsAbort, EndsTargetReset, GetsReady, IsLost, Leaves, HasLeft, EndsReset, Fails, Allowed, IsRunFrom, after, after_all, accepted, run_at, after_abort_end}

-- what a step makes of it
abbrev resetting_after : Bool → Step → Bool
resetting_after r (Grants calls.Reset) = true
resetting_after r (Grants calls.UnitReset) = true
resetting_after r EndsReset = false
resetting_after r _ = r

start_so : (mode : HostState) → (if is_off mode then None else Some refusal.AlreadyStarted) ≡ None → is_resetting mode ≡ false
start_so state.Off h = refl
start_so state.Starting h = refl
start_so state.Up h = refl
start_so state.Resetting h = absurd (cc)

up_so : (mode : HostState) → mode ≡ state.Starting → is_resetting mode ≡ false
up_so mode h = ap is_resetting h

accepted_mode : (m : Machine) (n a : ℕ) (o : Option ℕ) (c : Command) → (accepted m n a c o).mode ≡ m.mode
accepted_mode m n a None c = refl
accepted_mode m n a (Some k) c = refl

run_mode : (m : Machine) (n a : ℕ) (r : Option OpenRequest) (d : Option MachineDisk) → (run_at m n a r d).mode ≡ m.mode
run_mode m n a None d = refl
run_mode m n a (Some r) None = refl
run_mode m n a (Some r) (Some d) = refl

abort_mode : (m : Machine) (n : ℕ) (how : AbortOutcome) → (after_abort_end m n how).mode ≡ m.mode
abort_mode m n abort.Stopped = refl
abort_mode m n abort.NotFound = refl
abort_mode m n abort.Reset = refl

pub resetting_step : (m : Machine) (step : Step) → Allowed m step → is_resetting (after m step).mode ≡ resetting_after (is_resetting m.mode) step
resetting_step m (Grants calls.Start) h = sym (start_so m.mode h.0)
resetting_step m (Grants (calls.Submit n a c)) h = ap is_resetting (accepted_mode m n a (m.ready a) c)
resetting_step m (Grants (calls.Abort n)) h = refl
resetting_step m (Grants (calls.TargetReset a)) h = refl
resetting_step m (Grants calls.Reset) h = refl
resetting_step m (Grants calls.UnitReset) h = refl
resetting_step m (Grants (calls.Plug a p)) h = refl
resetting_step m (Grants (calls.Unplug a)) h = refl
resetting_step m (Refuses c x) h = refl
resetting_step m GetsUp h = sym (up_so m.mode h)
resetting_step m (Runs n a) h = ap is_resetting (run_mode m n a (finmap.get m.requests n) (m.disks a))
resetting_step m (Answers n how) h = refl
resetting_step m (EndsAbort n how) h = ap is_resetting (abort_mode m n how)
resetting_step m (EndsTargetReset a how) h = refl
resetting_step m (GetsReady a k) h = refl
resetting_step m (IsLost a) h = refl
resetting_step m Leaves h = refl
resetting_step m HasLeft h = refl
resetting_step m EndsReset h = refl
resetting_step m Fails h = absurd h

abbrev resetting_after_all : Bool → List Step → Bool
resetting_after_all r [] = r
resetting_after_all r (step ∷ steps) = resetting_after_all (resetting_after r step) steps

resetting_run : (m : Machine) (steps : List Step) → IsRunFrom m steps → is_resetting (after_all m steps).mode ≡ resetting_after_all (is_resetting m.mode) steps
resetting_run m [] h = refl
resetting_run m (step ∷ steps) h = resetting_run (after m step) steps h.1 ∙ ap (λ r. resetting_after_all r steps) (resetting_step m step h.0)

departing : (r b : Bool) (announced : ℕ → Bool) (changes : List Change) → resetting_after_all r (departures b announced changes) ≡ r
unfolding departures
departing r b announced [] = refl
departing r b announced (change ∷ changes) =
    by_test (change.status == target_not_responding && announced change.handle && not b) (departures b (announced_next announced change) changes) (departing r b (announced_next announced change) changes)
  where
    by_test : (c : Bool) (more : List Step) → resetting_after_all r more ≡ r → resetting_after_all r ((if c then Leaves ∷ [] else []) ++ more) ≡ r
    by_test true more h = h
    by_test false more h = h

letting_go : (r b : Bool) → resetting_after_all r (if b then HasLeft ∷ [] else []) ≡ r
letting_go r true = refl
letting_go r false = refl

hearing : (r : Bool) (g : SoFar) (i : Item) (ahead : Option Entry) → resetting_after_all r (heard_steps g i ahead) ≡ r
hearing r g (item.Up (up.Reply descriptor (Some frame) page sense)) ahead = by_test (smid_in descriptor == 0)
  where
    by_test : (c : Bool) → resetting_after_all r (if c then departures g.resetting g.announced (changes_in frame) else let_go g (smid_in descriptor) ahead) ≡ r
    by_test true = departing r g.resetting g.announced (changes_in frame)
    by_test false = letting_go r (g.is_target_reset (smid_in descriptor) && not g.resetting && not (is_target_end ahead))
hearing r g (item.Up (up.Reply descriptor None page sense)) ahead = letting_go r (g.is_target_reset (smid_in descriptor) && not g.resetting && not (is_target_end ahead))
hearing r g _ ahead = refl

or_false : (r : Bool) → (r || false) ≡ r
or_false true = refl
or_false false = refl

-- a call that leaves resets alone
calling : (r b : Bool) (call : Call) → resetting_after r (Grants call) ≡ r → (r || false) ≡ resetting_after_all r (if b then [] else Grants call ∷ [])
calling r true call h = or_false r
calling r false call h = or_false r ∙ sym h

submitting : (r b : Bool) → (r || false) ≡ resetting_after_all r (if b then [] else Fails ∷ [])
submitting r true = or_false r
submitting r false = or_false r

resetting_call : (r b : Bool) (call : Call) → resetting_after r (Grants call) ≡ true → (r || not b) ≡ resetting_after_all r (if b then [] else Grants call ∷ [])
resetting_call r true call h = or_false r
resetting_call true false call h = sym h
resetting_call false false call h = sym h

giving : (r : Bool) (i : Input) (ahead : Option Entry) → (r || is_reset_asked (entry.Given i) ahead) ≡ resetting_after_all r (given_steps (call_of i) ahead)
giving r input.Start ahead = calling r (is_call_refused calls.Start ahead) calls.Start refl
giving r (input.Submit n a form) ahead = submitting r (is_call_answered n ahead)
giving r (input.Abort n) ahead = calling r (is_call_refused (calls.Abort n) ahead) (calls.Abort n) refl
giving r (input.TargetReset a) ahead = calling r (is_call_refused (calls.TargetReset a) ahead) (calls.TargetReset a) refl
giving r input.Reset ahead = resetting_call r (is_call_refused calls.Reset ahead) calls.Reset refl
giving r input.UnitReset ahead = resetting_call r (is_call_refused calls.UnitReset ahead) calls.UnitReset refl
giving r (input.Plug a expander phy) ahead = calling r (is_call_refused (call_of (input.Plug a expander phy)) ahead) (call_of (input.Plug a expander phy)) refl
giving r (input.Unplug a) ahead = calling r (is_call_refused (calls.Unplug a) ahead) (calls.Unplug a) refl

-- a step that stands for a value and leaves resets alone
stepping : {X : Type 0} (r : Bool) (o : Option X) (f : X → Step) → ((x : X) → resetting_after r (f x) ≡ r) → r ≡ resetting_after_all r (step_if o f ∷ [])
stepping r None f h = refl
stepping r (Some x) f h = sym (h x)

posting : (i : Item) (g : SoFar) → (after_put i g).resetting ≡ g.resetting
posting (item.Down (down.Post descriptor frame payload)) g = refl
posting _ g = refl

accepting : (r : Bool) (o : Option Call) (n a : ℕ) → r ≡ resetting_after_all r (step_if (submitted o n a) Grants ∷ [])
accepting r (Some (calls.Submit k b command)) n a = by_test (k == n && b == a)
  where
    by_test : (c : Bool) → r ≡ resetting_after_all r (step_if (if c then Some (calls.Submit k b command) else None) Grants ∷ [])
    by_test true = refl
    by_test false = refl
accepting r _ n a = refl

pub resetting_entry : (g : SoFar) (e : Entry) (ahead : Option Entry) → (so_far_next g e ahead).resetting ≡ resetting_after_all g.resetting (steps_of g e ahead)
resetting_entry g (entry.Given i) ahead = giving g.resetting i ahead
resetting_entry g (entry.Put lane.Down i) ahead = posting i g
resetting_entry g (entry.Take lane.Up i) ahead = sym (hearing g.resetting g i ahead)
resetting_entry g (entry.Run a s) ahead = stepping g.resetting (g.number_of s) (λ n. Runs n a) (λ n. refl)
resetting_entry g (entry.Ready a h) ahead = stepping g.resetting (g.plug_of h) (λ k. GetsReady a k) (λ k. refl)
resetting_entry g (entry.Accept n a s) ahead = accepting g.resetting g.host_call n a
resetting_entry g (entry.RefuseSubmit n cause) ahead = stepping g.resetting (refused_submit g.host_call n) (λ call. Refuses call cause) (λ call. refl)
resetting_entry g (entry.Refuse call cause) ahead = stepping g.resetting (refused_call g.fabric_call call) (λ call. Refuses call cause) (λ call. refl)
resetting_entry g _ ahead = refl

-- where the machine allows an entry's steps, a reset that the trace calls on its way is the machine's before and after
pub resetting_is_mode : (g : Seen) (e : Entry) (ahead : Option Entry) → SeenAsks g e ahead → g.so_far.resetting ≡ is_resetting g.machine.mode → (seen_next g e ahead).so_far.resetting ≡ is_resetting (seen_next g e ahead).machine.mode
resetting_is_mode g e ahead asks same =
    resetting_entry g.so_far e ahead ∙ ap (λ r. resetting_after_all r (steps_of g.so_far e ahead)) same ∙ sym (resetting_run g.machine (steps_of g.so_far e ahead) asks)
