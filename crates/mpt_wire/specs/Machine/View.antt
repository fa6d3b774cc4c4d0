-- The view of a trace: the steps of the machine of disks that its entries say, in order.
use Rattle.std.specs.Prelude.{ℕ, ◌==◌, ◌&&◌, not, Bool, true, false, if◌then◌else◌, List, [], ◌∷◌, ◌++◌, Option, Some, None}
use Rattle.mpt_trace.specs.declared.disk_spec.DiskSpec.{DiskSpec}
use Rattle.mpt_trace.specs.declared.lane.LaneName.TheVariants as lane
use Rattle.mpt_trace.specs.declared.item.Item.{Item}
use Rattle.mpt_trace.specs.declared.item.Item.TheVariants as item
use Rattle.mpt_trace.specs.declared.item.Up.TheVariants as up
use Rattle.mpt_trace.specs.declared.entry.Entry.{Entry}
use Rattle.mpt_trace.specs.declared.entry.Entry.TheVariants as entry
use Rattle.mpt_wire.specs.Walks.Ahead.{next_own}
use Rattle.mpt_wire.specs.Messages.Fields.{Change, changes_in, smid_in, target_not_responding}
use Rattle.mpt_wire.specs.Machine.State.{Machine, first_machine}
use Rattle.mpt_wire.specs.Machine.Causes as calls
use Rattle.mpt_wire.specs.Machine.Causes.{Call}
use Rattle.mpt_wire.specs.Machine.Steps.{Step, Grants, Refuses, GetsUp, Runs, Answers, EndsAbort, EndsTargetReset, GetsReady, IsLost, Leaves, HasLeft, EndsReset, Fails, IsRun, IsRunFrom, after_all}
use Rattle.mpt_wire.specs.Machine.Calls.{call_of, is_call_refused, is_call_answered, submitted, refused_submit, refused_call}
use Rattle.mpt_wire.specs.Machine.SoFar.{SoFar, so_far_next, nothing_so_far, announced_next}

-- ---- the steps of one entry, given what the trace said before and the next entry of the entry's party

-- the step that a value says, where there is one
abbrev pub step_if : {X : Type 0} → Option X → (X → Step) → Step
step_if None f = Fails
step_if (Some x) f = f x

-- an input that is refused next says no step of its own; a submission says none, and its answer is next
abbrev pub given_steps : Call → Option Entry → List Step
given_steps (calls.Submit n a command) ahead = if is_call_answered n ahead then [] else Fails ∷ []
given_steps call ahead = if is_call_refused call ahead then [] else Grants call ∷ []

-- a disk that was announced departs; while a reset is on its way nobody notices
abbrev pub departure : Bool → (ℕ → Bool) → Change → List Step
departure resetting announced change =
    if change.status == target_not_responding && announced change.handle && not resetting then Leaves ∷ [] else []

unfoldable pub departures : Bool → (ℕ → Bool) → List Change → List Step
departures resetting announced [] = []
departures resetting announced (change ∷ changes) =
    departure resetting announced change ++ departures resetting (announced_next announced change) changes

abbrev pub is_target_end : Option Entry → Bool
is_target_end (Some (entry.TargetEnd a how)) = true
is_target_end _ = false

-- the reply of a target reset that nobody asked for from outside: the disk was let go
abbrev pub let_go : SoFar → ℕ → Option Entry → List Step
let_go g s ahead = if g.is_target_reset s && not g.resetting && not (is_target_end ahead) then HasLeft ∷ [] else []

-- what the host takes
abbrev pub heard_steps : SoFar → Item → Option Entry → List Step
heard_steps g (item.Up (up.Reply descriptor (Some frame) page sense)) ahead =
    if smid_in descriptor == 0 then departures g.resetting g.announced (changes_in frame) else let_go g (smid_in descriptor) ahead
heard_steps g (item.Up (up.Reply descriptor None page sense)) ahead = let_go g (smid_in descriptor) ahead
heard_steps g _ ahead = []

-- the steps of an entry
abbrev pub steps_of : SoFar → Entry → Option Entry → List Step
steps_of g (entry.Given input) ahead = given_steps (call_of input) ahead
steps_of g (entry.Take lane.Up item) ahead = heard_steps g item ahead
steps_of g (entry.Run a s) ahead = step_if (g.number_of s) (λ n. Runs n a) ∷ []
steps_of g entry.HostUp ahead = GetsUp ∷ []
steps_of g (entry.Ready a h) ahead = step_if (g.plug_of h) (λ k. GetsReady a k) ∷ []
steps_of g (entry.Lost a h) ahead = IsLost a ∷ []
steps_of g (entry.Accept n a s) ahead = step_if (submitted g.host_call n a) Grants ∷ []
steps_of g (entry.RefuseSubmit n cause) ahead = step_if (refused_submit g.host_call n) (λ call. Refuses call cause) ∷ []
steps_of g (entry.Refuse call cause) ahead = step_if (refused_call g.fabric_call call) (λ call. Refuses call cause) ∷ []
steps_of g (entry.Answer n how) ahead = Answers n how ∷ []
steps_of g (entry.AbortEnd n how) ahead = EndsAbort n how ∷ []
steps_of g (entry.TargetEnd a how) ahead = EndsTargetReset a how ∷ []
steps_of g entry.ResetDone ahead = EndsReset ∷ []
steps_of g _ ahead = []

-- ---- the steps of a trace

abbrev pub view_from : SoFar → List Entry → List Step
view_from g [] = []
view_from g (e ∷ t) = steps_of g e (next_own e t) ++ view_from (so_far_next g e (next_own e t)) t

-- the steps of the entries, in order
abbrev pub view : List Entry → List Step
view t = view_from nothing_so_far t

-- the view is a run of the machine with these disks
abbrev pub ViewIsRun : List DiskSpec → List Entry → Type 0
ViewIsRun disks t = IsRun disks (view t)

-- ---- the same as a rule that goes over the trace with the machine and what was said so far

pub record Seen : Type 0 where
  pub machine : Machine
  pub so_far : SoFar

abbrev pub seen_next : Seen → Entry → Option Entry → Seen
seen_next g e ahead = record { machine = after_all g.machine (steps_of g.so_far e ahead); so_far = so_far_next g.so_far e ahead }

-- the machine allows the entry's steps
abbrev pub SeenAsks : Seen → Entry → Option Entry → Type 0
SeenAsks g e ahead = IsRunFrom g.machine (steps_of g.so_far e ahead)

abbrev pub first_seen : List DiskSpec → Seen
first_seen disks = record { machine = first_machine disks; so_far = nothing_so_far }

-- the machine with these disks after the trace
abbrev pub machine_after : List DiskSpec → List Entry → Machine
machine_after disks t = after_all (first_machine disks) (view t)
