-- The mode of the machine after a trace, entry by entry: four kinds of entries change it.
use Rattle.std.proofs.Common.{◌≡◌, ℕ, ◌==◌, ◌&&◌, not, Bool, true, false, if◌then◌else◌, List, [], ◌∷◌, ◌++◌, Option, Some, None, refl, ap, ◌∙◌}
use Rattle.std.specs.FinMap as finmap
use Rattle.scsi_disk.specs.declared.command.Command.{Command}
use Rattle.mpt_trace.specs.declared.disk_spec.DiskSpec.{DiskSpec}
use Rattle.mpt_trace.specs.declared.entry.Entry.{Entry}
use Rattle.mpt_trace.specs.declared.entry.Entry.TheVariants as entry
use Rattle.mpt_trace.specs.declared.host_state.HostState.{HostState}
use Rattle.mpt_trace.specs.declared.host_state.HostState.TheVariants as state
use Rattle.mpt_trace.specs.declared.input.Input.TheVariants as input
use Rattle.mpt_trace.specs.declared.item.Item.TheVariants as item
use Rattle.mpt_trace.specs.declared.item.Up.TheVariants as up
use Rattle.mpt_trace.specs.declared.lane.LaneName.TheVariants as lane
use Rattle.mpt_trace.specs.declared.outcome.AbortOutcome.{AbortOutcome}
use Rattle.mpt_trace.specs.declared.outcome.AbortOutcome.TheVariants as abort
use Rattle.mpt_wire.specs.Machine.Calls.{is_call_answered, is_call_refused, refused_call, refused_submit, submitted}
use Rattle.mpt_wire.specs.Machine.Causes as calls
use Rattle.mpt_wire.specs.Machine.Causes.{Call}
use Rattle.mpt_wire.specs.Machine.SoFar.{SoFar, announced_next, nothing_so_far, so_far_next}
use Rattle.mpt_wire.specs.Machine.State.{Machine, MachineDisk, OpenRequest, first_machine}
use Rattle.mpt_wire.specs.Machine.Steps.{Answers, EndsAbort, EndsReset, EndsTargetReset, Fails, GetsReady, GetsUp, Grants, HasLeft, IsLost, Leaves, Refuses, Runs, Step, accepted, after, after_abort_end, after_all, run_at}
use Rattle.mpt_wire.specs.Machine.View.{departures, is_target_end, let_go, machine_after, step_if, steps_of, view, view_from}
use Rattle.mpt_wire.specs.Messages.Fields.{Change, changes_in, smid_in, target_not_responding}
use Rattle.mpt_wire.specs.Walks.Ahead.{next_own}

-- ---- what a step makes of the mode

abbrev mode_by : HostState → Step → HostState
mode_by m (Grants calls.Start) = state.Starting
mode_by m (Grants calls.Reset) = state.Resetting
mode_by m (Grants calls.UnitReset) = state.Resetting
mode_by m GetsUp = state.Up
mode_by m EndsReset = state.Starting
mode_by m _ = m

accepted_mode : (m : Machine) (n a : ℕ) (o : Option ℕ) (c : Command) → (accepted m n a c o).mode ≡ m.mode
accepted_mode m n a None c = refl
accepted_mode m n a (Some k) c = refl

run_mode : (m : Machine) (n a : ℕ) (r : Option OpenRequest) (d : Option MachineDisk) → (run_at m n a r d).mode ≡ m.mode
run_mode m n a None d = refl
run_mode m n a (Some r) None = refl
run_mode m n a (Some r) (Some d) = refl

abort_mode : (m : Machine) (n : ℕ) (how : AbortOutcome) → (after_abort_end m n how).mode ≡ m.mode
abort_mode m n abort.Stopped = refl
abort_mode m n abort.NotFound = refl
abort_mode m n abort.Reset = refl

step_mode : (m : Machine) (step : Step) → (after m step).mode ≡ mode_by m.mode step
step_mode m (Grants calls.Start) = refl
step_mode m (Grants (calls.Submit n a c)) = accepted_mode m n a (m.ready a) c
step_mode m (Grants (calls.Abort n)) = refl
step_mode m (Grants (calls.TargetReset a)) = refl
step_mode m (Grants calls.Reset) = refl
step_mode m (Grants calls.UnitReset) = refl
step_mode m (Grants (calls.Plug a p)) = refl
step_mode m (Grants (calls.Unplug a)) = refl
step_mode m (Refuses c x) = refl
step_mode m GetsUp = refl
step_mode m (Runs n a) = run_mode m n a (finmap.get m.requests n) (m.disks a)
step_mode m (Answers n how) = refl
step_mode m (EndsAbort n how) = abort_mode m n how
step_mode m (EndsTargetReset a how) = refl
step_mode m (GetsReady a k) = refl
step_mode m (IsLost a) = refl
step_mode m Leaves = refl
step_mode m HasLeft = refl
step_mode m EndsReset = refl
step_mode m Fails = refl

abbrev mode_all : HostState → List Step → HostState
mode_all m [] = m
mode_all m (step ∷ steps) = mode_all (mode_by m step) steps

all_mode : (m : Machine) (steps : List Step) → (after_all m steps).mode ≡ mode_all m.mode steps
all_mode m [] = refl
all_mode m (step ∷ steps) = all_mode (after m step) steps ∙ ap (λ (x : HostState). mode_all x steps) (step_mode m step)

mode_append : (m : HostState) (a b : List Step) → mode_all m (a ++ b) ≡ mode_all (mode_all m a) b
mode_append m [] b = refl
mode_append m (step ∷ a) b = mode_append (mode_by m step) a b

-- ---- what an entry makes of it, given the next entry of its party

abbrev pub mode_entry : HostState → Entry → Option Entry → HostState
mode_entry m (entry.Given input.Start) ahead = if is_call_refused calls.Start ahead then m else state.Starting
mode_entry m (entry.Given input.Reset) ahead = if is_call_refused calls.Reset ahead then m else state.Resetting
mode_entry m (entry.Given input.UnitReset) ahead = if is_call_refused calls.UnitReset ahead then m else state.Resetting
mode_entry m entry.HostUp ahead = state.Up
mode_entry m entry.ResetDone ahead = state.Starting
mode_entry m _ ahead = m

departure_mode : (m : HostState) (b : Bool) (steps : List Step) → mode_all m ((if b then Leaves ∷ [] else []) ++ steps) ≡ mode_all m steps
departure_mode m true steps = refl
departure_mode m false steps = refl

departures_mode : (m : HostState) (resetting : Bool) (announced : ℕ → Bool) (changes : List Change) → mode_all m (departures resetting announced changes) ≡ m
unfolding departures
departures_mode m resetting announced [] = refl
departures_mode m resetting announced (c ∷ cs) =
    departure_mode m (c.status == target_not_responding && announced c.handle && not resetting) (departures resetting (announced_next announced c) cs) ∙ departures_mode m resetting (announced_next announced c) cs

let_go_mode : (m : HostState) (g : SoFar) (s : ℕ) (ahead : Option Entry) → mode_all m (let_go g s ahead) ≡ m
let_go_mode m g s ahead = by_test (g.is_target_reset s && not g.resetting && not (is_target_end ahead))
  where
    by_test : (b : Bool) → mode_all m (if b then HasLeft ∷ [] else []) ≡ m
    by_test true = refl
    by_test false = refl

framed_mode : (m : HostState) (g : SoFar) (s : ℕ) (frame : List ℕ) (ahead : Option Entry) (b : Bool) → mode_all m (if b then departures g.resetting g.announced (changes_in frame) else let_go g s ahead) ≡ m
framed_mode m g s frame ahead true = departures_mode m g.resetting g.announced (changes_in frame)
framed_mode m g s frame ahead false = let_go_mode m g s ahead

one_mode : (m : HostState) (b : Bool) (step : Step) → mode_all m (if b then [] else step ∷ []) ≡ (if b then m else mode_by m step)
one_mode m true step = refl
one_mode m false step = refl

same_mode : (m : HostState) (b : Bool) (step : Step) → mode_by m step ≡ m → mode_all m (if b then [] else step ∷ []) ≡ m
same_mode m true step e = refl
same_mode m false step e = e

step_if_mode : {X : Type 0} (m : HostState) (o : Option X) (f : X → Step) → ((x : X) → mode_by m (f x) ≡ m) → mode_all m (step_if o f ∷ []) ≡ m
step_if_mode m None f h = refl
step_if_mode m (Some x) f h = h x

submitted_mode : (m : HostState) (last : Option Call) (n a : ℕ) → mode_all m (step_if (submitted last n a) Grants ∷ []) ≡ m
submitted_mode m None n a = refl
submitted_mode m (Some (calls.Submit k b command)) n a = by_test (k == n && b == a)
  where
    by_test : (c : Bool) → mode_all m (step_if (if c then Some (calls.Submit k b command) else None) Grants ∷ []) ≡ m
    by_test true = refl
    by_test false = refl
submitted_mode m (Some calls.Start) n a = refl
submitted_mode m (Some (calls.Abort k)) n a = refl
submitted_mode m (Some (calls.TargetReset b)) n a = refl
submitted_mode m (Some calls.Reset) n a = refl
submitted_mode m (Some calls.UnitReset) n a = refl
submitted_mode m (Some (calls.Plug b p)) n a = refl
submitted_mode m (Some (calls.Unplug b)) n a = refl

entry_mode : (m : HostState) (g : SoFar) (e : Entry) (ahead : Option Entry) → mode_all m (steps_of g e ahead) ≡ mode_entry m e ahead
entry_mode m g (entry.Given input.Start) ahead = one_mode m (is_call_refused calls.Start ahead) (Grants calls.Start)
entry_mode m g (entry.Given input.Reset) ahead = one_mode m (is_call_refused calls.Reset ahead) (Grants calls.Reset)
entry_mode m g (entry.Given input.UnitReset) ahead = one_mode m (is_call_refused calls.UnitReset ahead) (Grants calls.UnitReset)
entry_mode m g (entry.Given (input.Submit n a form)) ahead = same_mode m (is_call_answered n ahead) Fails refl
entry_mode m g (entry.Given (input.Abort n)) ahead = same_mode m (is_call_refused (calls.Abort n) ahead) (Grants (calls.Abort n)) refl
entry_mode m g (entry.Given (input.TargetReset a)) ahead = same_mode m (is_call_refused (calls.TargetReset a) ahead) (Grants (calls.TargetReset a)) refl
entry_mode m g (entry.Given (input.Plug a expander phy)) ahead =
    same_mode m (is_call_refused (calls.Plug a (record { expander = expander; phy = phy })) ahead) (Grants (calls.Plug a (record { expander = expander; phy = phy }))) refl
entry_mode m g (entry.Given (input.Unplug a)) ahead = same_mode m (is_call_refused (calls.Unplug a) ahead) (Grants (calls.Unplug a)) refl
entry_mode m g (entry.Take lane.Up (item.Up (up.Reply descriptor (Some frame) page sense))) ahead = framed_mode m g (smid_in descriptor) frame ahead (smid_in descriptor == 0)
entry_mode m g (entry.Take lane.Up (item.Up (up.Reply descriptor None page sense))) ahead = let_go_mode m g (smid_in descriptor) ahead
entry_mode m g (entry.Take l i) ahead = refl
entry_mode m g (entry.Run a s) ahead = step_if_mode m (g.number_of s) (λ n. Runs n a) (λ n. refl)
entry_mode m g entry.HostUp ahead = refl
entry_mode m g (entry.Ready a h) ahead = step_if_mode m (g.plug_of h) (λ k. GetsReady a k) (λ k. refl)
entry_mode m g (entry.Lost a h) ahead = refl
entry_mode m g (entry.Accept n a s) ahead = submitted_mode m g.host_call n a
entry_mode m g (entry.RefuseSubmit n cause) ahead = step_if_mode m (refused_submit g.host_call n) (λ call. Refuses call cause) (λ c. refl)
entry_mode m g (entry.Refuse call cause) ahead = step_if_mode m (refused_call g.fabric_call call) (λ c. Refuses c cause) (λ c. refl)
entry_mode m g (entry.Answer n how) ahead = refl
entry_mode m g (entry.AbortEnd n how) ahead = refl
entry_mode m g (entry.TargetEnd a how) ahead = refl
entry_mode m g entry.ResetDone ahead = refl
entry_mode m g _ ahead = refl

-- ---- over a trace

abbrev pub mode_trace : HostState → List Entry → HostState
mode_trace m [] = m
mode_trace m (e ∷ t) = mode_trace (mode_entry m e (next_own e t)) t

view_mode : (m : HostState) (g : SoFar) (t : List Entry) → mode_all m (view_from g t) ≡ mode_trace m t
view_mode m g [] = refl
view_mode m g (e ∷ t) =
    let rest : List Step = view_from (so_far_next g e (next_own e t)) t in
    mode_append m (steps_of g e (next_own e t)) rest
    ∙ (ap (λ (x : HostState). mode_all x rest) (entry_mode m g e (next_own e t)) ∙ view_mode (mode_entry m e (next_own e t)) (so_far_next g e (next_own e t)) t)

pub machine_mode : (disks : List DiskSpec) (t : List Entry) → (machine_after disks t).mode ≡ mode_trace state.Off t
machine_mode disks t = all_mode (first_machine disks) (view t) ∙ view_mode state.Off nothing_so_far t
