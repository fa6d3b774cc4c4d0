-- What is ready, and was made so, behind entries: it changes by a disk told ready or lost, and by the end of a reset.
use Rattle.std.proofs.Common.{◌≡◌, ℕ, zero, suc, ◌==◌, ◌&&◌, Bool, true, false, if◌then◌else◌, List, [], ◌∷◌, ◌++◌, Option, Some, None, refl, ap, sym, ◌∙◌, subst}
use Rattle.std.specs.FinMap as finmap
use Rattle.scsi_disk.specs.declared.command.Command.{Command}
use Rattle.mpt_wire.specs.Machine.Calls.{call_of, is_call_answered, is_call_refused, submitted, refused_submit, refused_call}
use Rattle.mpt_wire.specs.Machine.Causes as calls
use Rattle.mpt_wire.specs.Machine.Causes.{Call}
use Rattle.mpt_wire.specs.Machine.SoFar.{SoFar, after_entry}
use Rattle.mpt_wire.specs.Machine.State.{Machine, MachineDisk, OpenRequest, put_at}
use Rattle.mpt_wire.specs.Machine.Steps.{Fails, GetsReady, Grants, Refuses, Runs, accepted, after_abort_end, after_all, granted, run_at}
use Rattle.mpt_wire.specs.Machine.View.{Seen, given_steps, seen_next, step_if, steps_of}
use Rattle.mpt_wire.specs.Walks.Ahead.{next_own, state_ahead}
use Rattle.mpt_wire.specs.Walks.Passes.{EachEntry}
use Rattle.mpt_trace.specs.declared.entry.Entry.{Entry}
use Rattle.mpt_trace.specs.declared.entry.Entry.TheVariants as entry
use Rattle.mpt_trace.specs.declared.item.Item.TheVariants as item
use Rattle.mpt_trace.specs.declared.item.Up.{Up}
use Rattle.mpt_trace.specs.declared.outcome.AbortOutcome.{AbortOutcome}
use Rattle.mpt_trace.specs.declared.outcome.AbortOutcome.TheVariants as abort
use Rattle.mpt_trace.specs.declared.refusal.Refusal.{Refusal}
use Rattle.mpt_rules.specs.World.State.{up_lane}
use Rattle.law_disks.proofs.Takes.{take_leaves}

-- an entry that tells none ready or lost, and ends no reset
abbrev pub IsBare : Entry → Type 0
IsBare entry.ResetDone = ⊥
IsBare (entry.Ready a k) = ⊥
IsBare (entry.Lost a k) = ⊥
IsBare e = Unit {0}

-- the same is ready, and was made so
pub record Same (m o : Machine) : Type 0 where
  pub ready : o.ready ≡ m.ready
  pub made : o.made ≡ m.made

same : (m : Machine) → Same m m
same m = record { ready = refl; made = refl }

-- ---- one entry

opened : (m : Machine) (n a : ℕ) (c : Command) (o : Option ℕ) → Same m (accepted m n a c o)
opened m n a c None = record { ready = refl; made = refl }
opened m n a c (Some plug) = record { ready = refl; made = refl }

grants : (m : Machine) (c : Call) → Same m (granted m c)
grants m calls.Start = record { ready = refl; made = refl }
grants m (calls.Submit n a c) = opened m n a c (m.ready a)
grants m (calls.Abort n) = record { ready = refl; made = refl }
grants m (calls.TargetReset a) = record { ready = refl; made = refl }
grants m calls.Reset = record { ready = refl; made = refl }
grants m calls.UnitReset = record { ready = refl; made = refl }
grants m (calls.Plug a place) = record { ready = refl; made = refl }
grants m (calls.Unplug a) = record { ready = refl; made = refl }

if_granted : (m : Machine) (c : Call) (b : Bool) → Same m (after_all m (if b then [] else Grants c ∷ []))
if_granted m c true = same m
if_granted m c false = grants m c

given : (m : Machine) (c : Call) (ahead : Option Entry) → Same m (after_all m (given_steps c ahead))
given m (calls.Submit n a c) ahead = by_test (is_call_answered n ahead)
  where
    by_test : (b : Bool) → Same m (after_all m (if b then [] else Fails ∷ []))
    by_test true = same m
    by_test false = record { ready = refl; made = refl }
given m calls.Start ahead = if_granted m calls.Start (is_call_refused calls.Start ahead)
given m (calls.Abort n) ahead = if_granted m (calls.Abort n) (is_call_refused (calls.Abort n) ahead)
given m (calls.TargetReset a) ahead = if_granted m (calls.TargetReset a) (is_call_refused (calls.TargetReset a) ahead)
given m calls.Reset ahead = if_granted m calls.Reset (is_call_refused calls.Reset ahead)
given m calls.UnitReset ahead = if_granted m calls.UnitReset (is_call_refused calls.UnitReset ahead)
given m (calls.Plug a place) ahead = if_granted m (calls.Plug a place) (is_call_refused (calls.Plug a place) ahead)
given m (calls.Unplug a) ahead = if_granted m (calls.Unplug a) (is_call_refused (calls.Unplug a) ahead)

submits : (m : Machine) (o : Option Call) → Same m (after_all m (step_if o Grants ∷ []))
submits m None = record { ready = refl; made = refl }
submits m (Some c) = grants m c

refuses : (m : Machine) (o : Option Call) (c : Refusal) → Same m (after_all m (step_if o (λ call. Refuses call c) ∷ []))
refuses m None c = record { ready = refl; made = refl }
refuses m (Some call) c = record { ready = refl; made = refl }

ends : (m : Machine) (n : ℕ) (how : AbortOutcome) → Same m (after_abort_end m n how)
ends m n abort.Stopped = record { ready = refl; made = refl }
ends m n abort.NotFound = record { ready = refl; made = refl }
ends m n abort.Reset = record { ready = refl; made = refl }

ran : (m : Machine) (n a : ℕ) (r : Option OpenRequest) (d : Option MachineDisk) → Same m (run_at m n a r d)
ran m n a None d = record { ready = refl; made = refl }
ran m n a (Some r) None = record { ready = refl; made = refl }
ran m n a (Some r) (Some d) = record { ready = refl; made = refl }

runs : (m : Machine) (a : ℕ) (o : Option ℕ) → Same m (after_all m (step_if o (λ n. Runs n a) ∷ []))
runs m a None = record { ready = refl; made = refl }
runs m a (Some n) = ran m n a (finmap.get m.requests n) (m.disks a)

pub taken : (m : Machine) (g : SoFar) (l : Rattle.mpt_trace.specs.declared.lane.LaneName.LaneName) (x : Rattle.mpt_trace.specs.declared.item.Item.Item) (ahead : Option Entry) → Same m (after_all m (steps_of g (entry.Take l x) ahead))
taken m g l x ahead = let z = take_leaves m g l x ahead in record { ready = ap (λ (o : Machine). o.ready) z.1; made = ap (λ (o : Machine). o.made) z.1 }

one : (m : Machine) (g : SoFar) (e : Entry) (ahead : Option Entry) → IsBare e → Same m (after_all m (steps_of g e ahead))
one m g (entry.Given i) ahead b = given m (call_of i) ahead
one m g (entry.Take l x) ahead b = taken m g l x ahead
one m g (entry.Run a s) ahead b = runs m a (g.number_of s)
one m g entry.HostUp ahead b = record { ready = refl; made = refl }
one m g (entry.Accept n a s) ahead b = submits m (submitted g.host_call n a)
one m g (entry.RefuseSubmit n c) ahead b = refuses m (refused_submit g.host_call n) c
one m g (entry.Refuse call c) ahead b = refuses m (refused_call g.fabric_call call) c
one m g (entry.Answer n how) ahead b = record { ready = refl; made = refl }
one m g (entry.AbortEnd n how) ahead b = ends m n how
one m g (entry.TargetEnd a how) ahead b = record { ready = refl; made = refl }
one m g (entry.Put l x) ahead b = same m
one m g (entry.Idle x) ahead b = same m
one m g (entry.Bind k a n) ahead b = same m
one m g (entry.Unbind k) ahead b = same m
one m g entry.UnbindAll ahead b = same m
one m g entry.ResetDone ahead b = absurd b
one m g (entry.Ready a k) ahead b = absurd b
one m g (entry.Lost a k) ahead b = absurd b

-- ---- entries

pub bare_same : (t : List Entry) (g : Seen) → EachEntry IsBare t → Same g.machine (state_ahead seen_next g t []).machine
bare_same [] g b = same g.machine
bare_same (e ∷ t) g b =
    let x = one g.machine g.so_far e (next_own e (t ++ [])) b.0 in
    let y = bare_same t (seen_next g e (next_own e (t ++ []))) b.1 in
    record { ready = y.ready ∙ x.ready; made = y.made ∙ x.made }

-- behind the end of a reset nothing is ready
pub over_ready : (t : List Entry) (g : Seen) → (state_ahead seen_next g (t ++ entry.ResetDone ∷ []) []).machine.ready ≡ (λ a. None)
over_ready [] g = refl
over_ready (e ∷ t) g = over_ready t (seen_next g e (next_own e ((t ++ entry.ResetDone ∷ []) ++ [])))

pub over_made : (t : List Entry) (g : Seen) → (state_ahead seen_next g (t ++ entry.ResetDone ∷ []) []).machine.made ≡ (λ a. 0)
over_made [] g = refl
over_made (e ∷ t) g = over_made t (seen_next g e (next_own e ((t ++ entry.ResetDone ∷ []) ++ [])))

-- ---- an item is taken, and a disk is told ready, or lost

plug_taken : (queue : ℕ) (x : Up) (g : SoFar) (ahead : Option Entry) → (after_entry g (entry.Take (up_lane queue) (item.Up x)) ahead).plug_of ≡ g.plug_of
plug_taken zero x g ahead = refl
plug_taken (suc queue) x g ahead = refl

pub record NowReady (m o : Machine) (a k : ℕ) : Type 0 where
  pub ready : o.ready ≡ put_at a (Some k) m.ready
  pub made : o.made ≡ put_at a k m.made

pub ready_told : (queue : ℕ) (x : Up) (a handle k : ℕ) (g : Seen) → g.so_far.plug_of handle ≡ Some k → NowReady g.machine (state_ahead seen_next g (entry.Take (up_lane queue) (item.Up x) ∷ entry.Ready a handle ∷ []) []).machine a k
ready_told queue x a handle k g e =
    let ahead = next_own (entry.Take (up_lane queue) (item.Up x)) (entry.Ready a handle ∷ []) in
    let m : Machine = after_all g.machine (steps_of g.so_far (entry.Take (up_lane queue) (item.Up x)) ahead) in
    let z = taken g.machine g.so_far (up_lane queue) (item.Up x) ahead in
    let p = ap (λ f. f handle) (plug_taken queue x g.so_far ahead) ∙ e in
    record {
      ready = ap (λ o. (after_all m (step_if o (λ n. GetsReady a n) ∷ [])).ready) p ∙ ap (put_at a (Some k)) z.ready;
      made = ap (λ o. (after_all m (step_if o (λ n. GetsReady a n) ∷ [])).made) p ∙ ap (put_at a k) z.made;
    }

pub record NowLost (m o : Machine) (a : ℕ) : Type 0 where
  pub ready : o.ready ≡ put_at a None m.ready
  pub made : o.made ≡ m.made

pub lost_told : (queue : ℕ) (x : Up) (a handle : ℕ) (g : Seen) → NowLost g.machine (state_ahead seen_next g (entry.Take (up_lane queue) (item.Up x) ∷ entry.Lost a handle ∷ []) []).machine a
lost_told queue x a handle g =
    let ahead = next_own (entry.Take (up_lane queue) (item.Up x)) (entry.Lost a handle ∷ []) in
    let z = taken g.machine g.so_far (up_lane queue) (item.Up x) ahead in
    record { ready = ap (put_at a None) z.ready; made = z.made }
