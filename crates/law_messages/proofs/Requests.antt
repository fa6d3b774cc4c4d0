-- What entries do to the machine's open requests: an accept opens one and an answer closes one, and nothing else does.
use Rattle.std.proofs.Common.{◌≡◌, ℕ, map, ◌==◌, ◌&&◌, Bool, true, false, if◌then◌else◌, List, [], ◌∷◌, ◌++◌, Option, Some, None, refl, ap, ◌∙◌, arith, sym}
use Rattle.std.specs.FinMap as finmap
use Rattle.mpt_wire.specs.Machine.Causes as calls
use Rattle.mpt_wire.specs.Machine.Causes.{Call}
use Rattle.mpt_wire.specs.Machine.Calls.{call_of, is_call_answered, is_call_refused, refused_call, refused_submit}
use Rattle.mpt_wire.specs.Machine.SoFar.{SoFar, announced_next}
use Rattle.mpt_wire.specs.Machine.State.{Machine, MachineDisk, OpenRequest}
use Rattle.mpt_wire.specs.Machine.Steps.{Step, Answers, EndsAbort, EndsReset, EndsTargetReset, Fails, GetsReady, GetsUp, Grants, HasLeft, IsLost, Leaves, Refuses, Runs, accepted, after, after_abort_end, after_all, run_at}
use Rattle.mpt_wire.specs.Machine.View.{Seen, departure, departures, given_steps, heard_steps, let_go, seen_next, step_if, steps_of}
use Rattle.mpt_wire.specs.Messages.Fields.{Change, changes_in, smid_in}
use Rattle.mpt_wire.specs.Walks.Ahead.{next_own, state_ahead}
use Rattle.mpt_wire.specs.Walks.Passes.{EachEntry}
use Rattle.mpt_trace.specs.Command.{command_named}
use Rattle.mpt_trace.specs.declared.command_form.CommandForm.{CommandForm}
use Rattle.mpt_trace.specs.declared.entry.Entry.{Entry}
use Rattle.mpt_trace.specs.declared.entry.Entry.TheVariants as entry
use Rattle.mpt_trace.specs.declared.input.Input.TheVariants as input
use Rattle.mpt_trace.specs.declared.item.Item.{Item}
use Rattle.mpt_trace.specs.declared.item.Item.TheVariants as item
use Rattle.mpt_trace.specs.declared.item.Up.TheVariants as up
use Rattle.mpt_trace.specs.declared.lane.LaneName.{LaneName}
use Rattle.mpt_trace.specs.declared.lane.LaneName.TheVariants as lane
use Rattle.mpt_trace.specs.declared.outcome.AbortOutcome.{AbortOutcome}
use Rattle.mpt_trace.specs.declared.outcome.AbortOutcome.TheVariants as abort
use Rattle.mpt_trace.specs.declared.outcome.Outcome.{Outcome}
use Rattle.mpt_rules.specs.Host.Resets.{reset_answer}
use Rattle.law_messages.proofs.Keys.{removed_less}

-- ---- steps

abbrev pub IsTameStep : Step → Type 0
IsTameStep (Grants (calls.Submit n a command)) = ⊥
IsTameStep (Answers n how) = ⊥
IsTameStep (Runs n a) = ⊥
IsTameStep step = Unit {0}

abbrev pub EachStep : List Step → Type 0
EachStep [] = Unit {0}
EachStep (x ∷ xs) = IsTameStep x × EachStep xs

-- what a step leaves as it is
record Keeps (m n : Machine) : Type 0 where
  requests : n.requests ≡ m.requests
  outcome : n.outcome ≡ m.outcome

abort_keeps : (m : Machine) (n : ℕ) (how : AbortOutcome) → Keeps m (after_abort_end m n how)
abort_keeps m n abort.Stopped = record { requests = refl; outcome = refl }
abort_keeps m n abort.NotFound = record { requests = refl; outcome = refl }
abort_keeps m n abort.Reset = record { requests = refl; outcome = refl }

step_keeps : (m : Machine) (x : Step) → IsTameStep x → Keeps m (after m x)
step_keeps m (Grants calls.Start) t = record { requests = refl; outcome = refl }
step_keeps m (Grants (calls.Submit n a command)) t = absurd t
step_keeps m (Grants (calls.Abort n)) t = record { requests = refl; outcome = refl }
step_keeps m (Grants (calls.TargetReset a)) t = record { requests = refl; outcome = refl }
step_keeps m (Grants calls.Reset) t = record { requests = refl; outcome = refl }
step_keeps m (Grants calls.UnitReset) t = record { requests = refl; outcome = refl }
step_keeps m (Grants (calls.Plug a place)) t = record { requests = refl; outcome = refl }
step_keeps m (Grants (calls.Unplug a)) t = record { requests = refl; outcome = refl }
step_keeps m (Refuses call cause) t = record { requests = refl; outcome = refl }
step_keeps m GetsUp t = record { requests = refl; outcome = refl }
step_keeps m (Runs n a) t = absurd t
step_keeps m (Answers n how) t = absurd t
step_keeps m (EndsAbort n how) t = abort_keeps m n how
step_keeps m (EndsTargetReset a how) t = record { requests = refl; outcome = refl }
step_keeps m (GetsReady a plug) t = record { requests = refl; outcome = refl }
step_keeps m (IsLost a) t = record { requests = refl; outcome = refl }
step_keeps m Leaves t = record { requests = refl; outcome = refl }
step_keeps m HasLeft t = record { requests = refl; outcome = refl }
step_keeps m EndsReset t = record { requests = refl; outcome = refl }
step_keeps m Fails t = record { requests = refl; outcome = refl }

steps_keep : (m : Machine) (xs : List Step) → EachStep xs → Keeps m (after_all m xs)
steps_keep m [] t = record { requests = refl; outcome = refl }
steps_keep m (x ∷ xs) t = let a = step_keeps m x t.0 in let b = steps_keep (after m x) xs t.1 in record { requests = b.requests ∙ a.requests; outcome = b.outcome ∙ a.outcome }

-- ---- entries

abbrev pub IsTame : Entry → Type 0
IsTame (entry.Accept n address smid) = ⊥
IsTame (entry.Answer n how) = ⊥
IsTame (entry.Run address tag) = ⊥
IsTame e = Unit {0}

steps_append : (xs ys : List Step) → EachStep xs → EachStep ys → EachStep (xs ++ ys)
steps_append [] ys a b = b
steps_append (x ∷ xs) ys a b = (a.0, steps_append xs ys a.1 b)

if_steps : (b : Bool) (xs ys : List Step) → EachStep xs → EachStep ys → EachStep (if b then xs else ys)
if_steps true xs ys a c = a
if_steps false xs ys a c = c

step_if_tame : {X : Type 0} (o : Option X) (f : X → Step) → ((x : X) → IsTameStep (f x)) → EachStep (step_if o f ∷ [])
step_if_tame None f t = (tt, tt)
step_if_tame (Some x) f t = (t x, tt)

given_tame : (c : Call) (ahead : Option Entry) → EachStep (given_steps c ahead)
given_tame (calls.Submit n a command) ahead = if_steps (is_call_answered n ahead) [] (Fails ∷ []) tt (tt, tt)
given_tame calls.Start ahead = if_steps (is_call_refused calls.Start ahead) [] (Grants calls.Start ∷ []) tt (tt, tt)
given_tame (calls.Abort n) ahead = if_steps (is_call_refused (calls.Abort n) ahead) [] (Grants (calls.Abort n) ∷ []) tt (tt, tt)
given_tame (calls.TargetReset a) ahead = if_steps (is_call_refused (calls.TargetReset a) ahead) [] (Grants (calls.TargetReset a) ∷ []) tt (tt, tt)
given_tame calls.Reset ahead = if_steps (is_call_refused calls.Reset ahead) [] (Grants calls.Reset ∷ []) tt (tt, tt)
given_tame calls.UnitReset ahead = if_steps (is_call_refused calls.UnitReset ahead) [] (Grants calls.UnitReset ∷ []) tt (tt, tt)
given_tame (calls.Plug a place) ahead = if_steps (is_call_refused (calls.Plug a place) ahead) [] (Grants (calls.Plug a place) ∷ []) tt (tt, tt)
given_tame (calls.Unplug a) ahead = if_steps (is_call_refused (calls.Unplug a) ahead) [] (Grants (calls.Unplug a) ∷ []) tt (tt, tt)

departures_tame : (resetting : Bool) (announced : ℕ → Bool) (cs : List Change) → EachStep (departures resetting announced cs)
unfolding departures
departures_tame resetting announced [] = tt
departures_tame resetting announced (c ∷ cs) =
    steps_append (departure resetting announced c) (departures resetting (announced_next announced c) cs) (if_steps _ (Leaves ∷ []) [] (tt, tt) tt) (departures_tame resetting (announced_next announced c) cs)

let_go_tame : (g : SoFar) (s : ℕ) (ahead : Option Entry) → EachStep (let_go g s ahead)
let_go_tame g s ahead = if_steps _ (HasLeft ∷ []) [] (tt, tt) tt

heard_tame : (g : SoFar) (x : Item) (ahead : Option Entry) → EachStep (heard_steps g x ahead)
heard_tame g (item.Up (up.Reply d (Some frame) page sense)) ahead = if_steps (smid_in d == 0) (departures g.resetting g.announced (changes_in frame)) (let_go g (smid_in d) ahead) (departures_tame g.resetting g.announced (changes_in frame)) (let_go_tame g (smid_in d) ahead)
heard_tame g (item.Up (up.Reply d None page sense)) ahead = let_go_tame g (smid_in d) ahead
heard_tame g (item.Up (up.Value value)) ahead = tt
heard_tame g (item.Up (up.Mark generation)) ahead = tt
heard_tame g (item.Up up.Calm) ahead = tt
heard_tame g (item.Down x) ahead = tt
heard_tame g (item.Out x) ahead = tt
heard_tame g (item.Back x) ahead = tt
heard_tame g (item.Ask x) ahead = tt
heard_tame g (item.Tell x) ahead = tt

taken_tame : (g : SoFar) (l : LaneName) (x : Item) (ahead : Option Entry) → EachStep (steps_of g (entry.Take l x) ahead)
taken_tame g lane.Up x ahead = heard_tame g x ahead
taken_tame g (lane.UpOn queue) x ahead = tt
taken_tame g lane.Down x ahead = tt
taken_tame g lane.Out x ahead = tt
taken_tame g lane.Back x ahead = tt
taken_tame g (lane.Ask i) x ahead = tt
taken_tame g (lane.Tell i) x ahead = tt

entry_tame : (g : SoFar) (e : Entry) (ahead : Option Entry) → IsTame e → EachStep (steps_of g e ahead)
entry_tame g (entry.Given input) ahead t = given_tame (call_of input) ahead
entry_tame g (entry.Idle choice) ahead t = tt
entry_tame g (entry.Put l x) ahead t = tt
entry_tame g (entry.Take l x) ahead t = taken_tame g l x ahead
entry_tame g (entry.Bind handle a k) ahead t = tt
entry_tame g (entry.Unbind handle) ahead t = tt
entry_tame g entry.UnbindAll ahead t = tt
entry_tame g (entry.Run a s) ahead t = absurd t
entry_tame g entry.HostUp ahead t = (tt, tt)
entry_tame g (entry.Ready a handle) ahead t = step_if_tame (g.plug_of handle) (λ k. GetsReady a k) (λ k. tt)
entry_tame g (entry.Lost a handle) ahead t = (tt, tt)
entry_tame g (entry.Accept n a s) ahead t = absurd t
entry_tame g (entry.RefuseSubmit n cause) ahead t = step_if_tame (refused_submit g.host_call n) (λ call. Refuses call cause) (λ call. tt)
entry_tame g (entry.Refuse call cause) ahead t = step_if_tame (refused_call g.fabric_call call) (λ c. Refuses c cause) (λ c. tt)
entry_tame g (entry.Answer n how) ahead t = absurd t
entry_tame g (entry.AbortEnd n how) ahead t = (tt, tt)
entry_tame g (entry.TargetEnd a how) ahead t = (tt, tt)
entry_tame g entry.ResetDone ahead t = (tt, tt)

tame_keeps : (g : Seen) (t : List Entry) → EachEntry IsTame t → Keeps g.machine (state_ahead seen_next g t []).machine
tame_keeps g [] a = record { requests = refl; outcome = refl }
tame_keeps g (e ∷ t) a =
    let x = steps_keep g.machine (steps_of g.so_far e (next_own e (t ++ []))) (entry_tame g.so_far e (next_own e (t ++ [])) a.0) in let y = tame_keeps (seen_next g e (next_own e (t ++ []))) t a.1 in
    record { requests = y.requests ∙ x.requests; outcome = y.outcome ∙ x.outcome }

pub tame_requests : (g : Seen) (t : List Entry) → EachEntry IsTame t → (state_ahead seen_next g t []).machine.requests ≡ g.machine.requests
tame_requests g t a = (tame_keeps g t a).requests

pub tame_outcome : (g : Seen) (t : List Entry) → EachEntry IsTame t → (state_ahead seen_next g t []).machine.outcome ≡ g.machine.outcome
tame_outcome g t a = (tame_keeps g t a).outcome

pub tame_append : (t u : List Entry) → EachEntry IsTame t → EachEntry IsTame u → EachEntry IsTame (t ++ u)
tame_append [] u a b = b
tame_append (e ∷ t) u a b = (a.0, tame_append t u a.1 b)

-- an item is taken, and a command answered
pub answered_requests : (g : Seen) (e : Entry) (n : ℕ) (how : Outcome) → IsTame e → (state_ahead seen_next g (e ∷ entry.Answer n how ∷ []) []).machine.requests ≡ finmap.remove g.machine.requests n
answered_requests g e n how t = ap (λ m. finmap.remove m n) (steps_keep g.machine (steps_of g.so_far e (next_own e (entry.Answer n how ∷ []))) (entry_tame g.so_far e (next_own e (entry.Answer n how ∷ [])) t)).requests

pub answered_outcome : (g : Seen) (e : Entry) (n : ℕ) (how : Outcome) → IsTame e → (state_ahead seen_next g (e ∷ entry.Answer n how ∷ []) []).machine.outcome ≡ g.machine.outcome
answered_outcome g e n how t = (steps_keep g.machine (steps_of g.so_far e (next_own e (entry.Answer n how ∷ []))) (entry_tame g.so_far e (next_own e (entry.Answer n how ∷ [])) t)).outcome

-- ---- without an accept none is opened

abbrev pub IsNoAccept : Entry → Type 0
IsNoAccept (entry.Accept n address smid) = ⊥
IsNoAccept e = Unit {0}

pub tame_no_accept : (e : Entry) → IsTame e → IsNoAccept e
tame_no_accept (entry.Accept n a s) t = absurd t
tame_no_accept e t = tt

run_keeps : (m : Machine) (n a : ℕ) (r : Option OpenRequest) (d : Option MachineDisk) → (run_at m n a r d).requests ≡ m.requests
run_keeps m n a None d = refl
run_keeps m n a (Some r) None = refl
run_keeps m n a (Some r) (Some d) = refl

ran_requests : (m : Machine) (a : ℕ) (o : Option ℕ) → (after_all m (step_if o (λ n. Runs n a) ∷ [])).requests ≡ m.requests
ran_requests m a None = refl
ran_requests m a (Some n) = run_keeps m n a (finmap.get m.requests n) (m.disks a)

module _ (n : ℕ) (r : OpenRequest) where
  abbrev Less : Seen → Entry → Option Entry → Type 0
  Less g e ahead = finmap.get (after_all g.machine (steps_of g.so_far e ahead)).requests n ≡ Some r → finmap.get g.machine.requests n ≡ Some r

  tame_less : (g : Seen) (e : Entry) (ahead : Option Entry) → IsTame e → Less g e ahead
  tame_less g e ahead t z = sym (ap (λ m. finmap.get m n) (steps_keep g.machine (steps_of g.so_far e ahead) (entry_tame g.so_far e ahead t)).requests) ∙ z

  entry_less : (g : Seen) (e : Entry) (ahead : Option Entry) → IsNoAccept e → Less g e ahead
  entry_less g (entry.Accept m a s) ahead t = absurd t
  entry_less g (entry.Answer m how) ahead t = λ z. removed_less g.machine.requests m n r z
  entry_less g (entry.Run a s) ahead t = λ z. sym (ap (λ m. finmap.get m n) (ran_requests g.machine a (g.so_far.number_of s))) ∙ z
  entry_less g (entry.Given i) ahead t = tame_less g (entry.Given i) ahead tt
  entry_less g (entry.Idle x) ahead t = tame_less g (entry.Idle x) ahead tt
  entry_less g (entry.Put l x) ahead t = tame_less g (entry.Put l x) ahead tt
  entry_less g (entry.Take l x) ahead t = tame_less g (entry.Take l x) ahead tt
  entry_less g (entry.Bind handle a p) ahead t = tame_less g (entry.Bind handle a p) ahead tt
  entry_less g (entry.Unbind handle) ahead t = tame_less g (entry.Unbind handle) ahead tt
  entry_less g entry.UnbindAll ahead t = tame_less g entry.UnbindAll ahead tt
  entry_less g entry.HostUp ahead t = tame_less g entry.HostUp ahead tt
  entry_less g (entry.Ready a handle) ahead t = tame_less g (entry.Ready a handle) ahead tt
  entry_less g (entry.Lost a handle) ahead t = tame_less g (entry.Lost a handle) ahead tt
  entry_less g (entry.RefuseSubmit m cause) ahead t = tame_less g (entry.RefuseSubmit m cause) ahead tt
  entry_less g (entry.Refuse call cause) ahead t = tame_less g (entry.Refuse call cause) ahead tt
  entry_less g (entry.AbortEnd m how) ahead t = tame_less g (entry.AbortEnd m how) ahead tt
  entry_less g (entry.TargetEnd a how) ahead t = tame_less g (entry.TargetEnd a how) ahead tt
  entry_less g entry.ResetDone ahead t = tame_less g entry.ResetDone ahead tt

  pub requests_less : (g : Seen) (t : List Entry) → EachEntry IsNoAccept t → finmap.get (state_ahead seen_next g t []).machine.requests n ≡ Some r → finmap.get g.machine.requests n ≡ Some r
  requests_less g [] a z = z
  requests_less g (e ∷ t) a z = entry_less g e (next_own e (t ++ [])) a.0 (requests_less (seen_next g e (next_own e (t ++ []))) t a.1 z)

pub over_no_accept : (ns : List ℕ) (u : List Entry) → EachEntry IsTame u → EachEntry IsNoAccept (map reset_answer ns ++ u)
over_no_accept [] [] a = tt
over_no_accept [] (e ∷ u) a = (tame_no_accept e a.0, over_no_accept [] u a.1)
over_no_accept (n ∷ ns) u a = (tt, over_no_accept ns u a)

-- a task runs
pub run_requests : (g : Seen) (a s : ℕ) → (state_ahead seen_next g (entry.Run a s ∷ []) []).machine.requests ≡ g.machine.requests
run_requests g a s = ran_requests g.machine a (g.so_far.number_of s)

-- a submission is accepted, of a disk that is ready
pub accepted_requests : (g : Seen) (n a plug s : ℕ) (form : CommandForm) → g.machine.ready a ≡ Some plug
    → (state_ahead seen_next g (entry.Given (input.Submit n a form) ∷ entry.Accept n a s ∷ []) []).machine.requests
    ≡ finmap.insert g.machine.requests n (record { address = a; plug = plug; command = command_named form })
accepted_requests g n a plug s form e = granted (n == n) (a == a) (same n) (same a) ∙ ap (λ o. (accepted g.machine n a (command_named form) o).requests) e
  where
    same : (n : ℕ) → (n == n) ≡ true
    same n = grind arith

    granted : (b d : Bool) → b ≡ true → d ≡ true
        → (after_all (after_all g.machine (if b then [] else Fails ∷ [])) (step_if (if b && d then Some (calls.Submit n a (command_named form)) else None) Grants ∷ [])).requests ≡ (accepted g.machine n a (command_named form) (g.machine.ready a)).requests
    granted true true t u = refl
    granted true false t u = absurd (cc)
    granted false d t u = absurd (cc)

pub accepted_outcome : (g : Seen) (n a plug s : ℕ) (form : CommandForm) → g.machine.ready a ≡ Some plug → (m : ℕ) → (m == n) ≡ false
    → (state_ahead seen_next g (entry.Given (input.Submit n a form) ∷ entry.Accept n a s ∷ []) []).machine.outcome m ≡ g.machine.outcome m
accepted_outcome g n a plug s form e m d = granted (n == n) (a == a) (same n) (same a) ∙ (ap (λ o. (accepted g.machine n a (command_named form) o).outcome m) e ∙ ap (λ b. if b then None else g.machine.outcome m) d)
  where
    same : (n : ℕ) → (n == n) ≡ true
    same n = grind arith

    granted : (b d : Bool) → b ≡ true → d ≡ true
        → (after_all (after_all g.machine (if b then [] else Fails ∷ [])) (step_if (if b && d then Some (calls.Submit n a (command_named form)) else None) Grants ∷ [])).outcome m ≡ (accepted g.machine n a (command_named form) (g.machine.ready a)).outcome m
    granted true true t u = refl
    granted true false t u = absurd (cc)
    granted false d t u = absurd (cc)
