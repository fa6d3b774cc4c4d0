-- In a run of the machine each request has one life.
use Rattle.std.proofs.Common.{◌≡◌, ℕ, ◌⊎◌, inl, inr, ◌==◌, ◌&&◌, ◌||◌, not, Bool, true, false, cond, if◌then◌else◌, List, [], ◌∷◌, filter_map, Option, Some, None, option_map, is_some, refl, sym, ap, subst, ◌∙◌, true≢false, eqb-true}
use Rattle.std.specs.List.{cons_option}
use Rattle.std.specs.Ordering.{nat_cmp}
use Rattle.std.specs.Cmp.{nat_cmp_total, unsigned_tied}
use Rattle.std.specs.FinMap as finmap
use Rattle.std.specs.FinSet as set
use Rattle.scsi_disk.specs.Command.{fits}
use Rattle.scsi_disk.specs.Performed.{performed}
use Rattle.scsi_disk.specs.declared.command.Command.{Command}
use Rattle.scsi_disk.specs.declared.scsi_result.ScsiResult.{ScsiResult}
use Rattle.mpt_trace.specs.declared.disk_spec.DiskSpec.{DiskSpec}
use Rattle.mpt_trace.specs.declared.outcome.Outcome.{Outcome}
use Rattle.mpt_trace.specs.declared.outcome.Outcome.TheVariants as outcome
use Rattle.mpt_trace.specs.declared.outcome.AbortOutcome.TheVariants as abort
use Rattle.mpt_trace.specs.declared.refusal.Refusal.TheVariants as refusal
use Rattle.mpt_wire.specs.Machine.State.{Machine, MachineDisk, OpenRequest, first_machine, place_of}
use Rattle.mpt_wire.specs.Machine.Causes as calls
use Rattle.mpt_wire.specs.Machine.Causes.{has_device, is_full, is_up, is_used}
use Rattle.mpt_wire.specs.Machine.Steps.{Step, Grants, Refuses, GetsUp, Runs, Answers, EndsAbort, EndsTargetReset, GetsReady, IsLost, Leaves, HasLeft, EndsReset, Fails, Allowed, IsRunFrom, IsRun, MayRun, MayAnswer, after, accepted, run_at}
use Rattle.mpt_wire.specs.Machine.Lives.{LifeEvent, IsAnswered, life_event_of, LifeAfterRun, LifeAt, Life, HaveOneLife}

-- how far the request has come
data Phase : Type 0 where
  New : Phase
  Waits : (address : ℕ) → Phase
  HasRun : (address : ℕ) → Phase
  Over : Phase

-- the parts of the machine that tell: the open request, whether the number is answered, what the disk answered
abbrev Tells : Option OpenRequest → Bool → Bool → Phase → Type 0
Tells r closed done New = (r ≡ None) × (closed ≡ false)
Tells r closed done (Waits a) = (option_map (λ x. x.address) r ≡ Some a) × (closed ≡ false) × (done ≡ false)
Tells r closed done (HasRun a) = (option_map (λ x. x.address) r ≡ Some a) × (closed ≡ false) × (done ≡ true)
Tells r closed done Over = (r ≡ None) × (closed ≡ true)

abbrev At : Machine → ℕ → Phase → Type 0
At m n p = Tells (finmap.get m.requests n) (set.contains m.closed n) (is_some (m.outcome n)) p

abbrev RestOf : Phase → List LifeEvent → Type 0
RestOf New ms = Life ms
RestOf (Waits a) ms = LifeAt a ms
RestOf (HasRun a) ms = LifeAfterRun ms
RestOf Over ms = ms ≡ []

-- where the step leads the request
record Moves (n : ℕ) (m : Machine) (step : Step) (p : Phase) : Type 0 where
  to : Phase
  at : At (after m step) n to
  adds : (ms : List LifeEvent) → RestOf to ms → RestOf p (cons_option (life_event_of n step) ms)

begins : (p : Phase) → RestOf p []
begins New = tt
begins (Waits a) = tt
begins (HasRun a) = tt
begins Over = refl

tells_same : (r s : Option OpenRequest) (c d x y : Bool) (p : Phase) → s ≡ r → d ≡ c → y ≡ x → Tells r c x p → Tells s d y p
tells_same r s c d x y New er ec ed h = (er ∙ h.0, ec ∙ h.1)
tells_same r s c d x y (Waits a) er ec ed h = (ap (option_map (λ q. q.address)) er ∙ h.0, ec ∙ h.1, ed ∙ h.2)
tells_same r s c d x y (HasRun a) er ec ed h = (ap (option_map (λ q. q.address)) er ∙ h.0, ec ∙ h.1, ed ∙ h.2)
tells_same r s c d x y Over er ec ed h = (er ∙ h.0, ec ∙ h.1)

module _ (m : finmap.FinMap nat_cmp OpenRequest) (k n : ℕ) where
  got : (v : OpenRequest) (b : Bool) → (n == k) ≡ b → finmap.get (finmap.insert m k v) n ≡ (if b then Some v else finmap.get m n)
  got v b e = finmap.get-insert nat_cmp_total m k v n ∙ ap (λ t. cond t (Some v) (finmap.get m n)) (unsigned_tied n k ∙ e)

  lost : (b : Bool) → (n == k) ≡ b → finmap.get (finmap.remove m k) n ≡ (if b then None else finmap.get m n)
  lost b e = finmap.get-remove nat_cmp_total m k n ∙ ap (λ t. cond t None (finmap.get m n)) (unsigned_tied n k ∙ e)

joined : (s : set.FinSet nat_cmp) (k n : ℕ) (b : Bool) → (n == k) ≡ b → set.contains (set.insert s k) n ≡ (b || set.contains s n)
joined s k n b e = set.contains-insert nat_cmp_total s k n ∙ ap (λ t. t || set.contains s n) (unsigned_tied n k ∙ e)

-- ---- a submission

submit_asks : (used up device fit full : Bool) → (if used then Some refusal.NumberUsed else if not up then Some refusal.NotOperational else if not device then Some refusal.NoDevice else if not fit then Some refusal.BadLength else if full then Some refusal.NoIdentifier else None) ≡ None → (used ≡ false) × (device ≡ true)
submit_asks true up device fit full h = absurd (cc)
submit_asks false false device fit full h = absurd (cc)
submit_asks false true false fit full h = absurd (cc)
submit_asks false true true fit full h = (refl, refl)

first_true : (a b : Bool) → (a && b) ≡ true → a ≡ true
first_true true b h = refl
first_true false b h = h

-- the number is new
unused : (r : Option OpenRequest) (closed done : Bool) (p : Phase) → (is_some r || closed) ≡ false → Tells r closed done p → p ≡ New
unused r closed done New u h = refl
unused None closed done (Waits a) u h = absurd (cc)
unused (Some r) closed done (Waits a) u h = absurd (true≢false u)
unused None closed done (HasRun a) u h = absurd (cc)
unused (Some r) closed done (HasRun a) u h = absurd (true≢false u)
unused None closed done Over u h = absurd (true≢false (sym h.1 ∙ u))
unused (Some r) closed done Over u h = absurd (true≢false u)

module _ (n : ℕ) (m : Machine) (k a : ℕ) (command : Command) where
  opens : (plug : ℕ) → (n == k) ≡ true → At m n New → At (accepted m k a command (Some plug)) n (Waits a)
  opens plug e h = (
    ap (option_map (λ q. q.address)) (got m.requests k n (record { address = a; plug = plug; command = command }) true e),
    h.1,
    ap (λ b. is_some (if b then None else m.outcome n)) e,
  )

  opens_another : (plug : ℕ) → (n == k) ≡ false → (p : Phase) → At m n p → At (accepted m k a command (Some plug)) n p
  opens_another plug e p h =
      tells_same (finmap.get m.requests n) _ (set.contains m.closed n) _ (is_some (m.outcome n)) _ p
      (got m.requests k n (record { address = a; plug = plug; command = command }) false e) refl (ap (λ b. is_some (if b then None else m.outcome n)) e) h

  submits : (o : Option ℕ) → m.ready a ≡ o → is_some o ≡ true → is_used m n ≡ false ⊎ ((n == k) ≡ false) → (p : Phase) → At m n p → (b : Bool) → (n == k) ≡ b → Moves n m (Grants (calls.Submit k a command)) p
  submits None ready some used p h b e = absurd (true≢false (sym some))
  submits (Some plug) ready some (inl used) p h true e =
      let new : p ≡ New = unused (finmap.get m.requests n) (set.contains m.closed n) (is_some (m.outcome n)) p used h in
      record { to = Waits a; at = rw (ready) (opens plug e (subst (At m n) new h)); adds = λ ms r. rw (e, new) r }
  submits (Some plug) ready some (inr other) p h true e = absurd (true≢false (sym e ∙ other))
  submits (Some plug) ready some used p h false e =
      record { to = p; at = rw (ready) (opens_another plug e p h); adds = λ ms r. rw (e) r }

used_or_other : (m : Machine) (n k : ℕ) (b : Bool) → (n == k) ≡ b → is_used m k ≡ false → is_used m n ≡ false ⊎ ((n == k) ≡ false)
used_or_other m n k true e u = inl (ap (is_used m) (eqb-true n k e) ∙ u)
used_or_other m n k false e u = inr e

submit_moves : (n : ℕ) (m : Machine) (k a : ℕ) (command : Command) (p : Phase) → Allowed m (Grants (calls.Submit k a command)) → At m n p → Moves n m (Grants (calls.Submit k a command)) p
submit_moves n m k a command p h at =
    let asks = submit_asks (is_used m k) (is_up m.mode) (has_device m a) (fits command) (is_full m) h.0 in
    submits n m k a command (m.ready a) refl (first_true _ (is_some (m.disks a)) asks.1) (used_or_other m n k (n == k) refl asks.0) p at (n == k) refl

-- ---- a run

record Run (m : Machine) (k a : ℕ) : Type 0 where
  request : OpenRequest
  disk : MachineDisk
  is_open : finmap.get m.requests k ≡ Some request
  its_address : request.address ≡ a
  is_disk : m.disks a ≡ Some disk
  unrun : m.outcome k ≡ None

run_asks : (m : Machine) (k a : ℕ) (r : Option OpenRequest) (d : Option MachineDisk) → finmap.get m.requests k ≡ r → m.disks a ≡ d → MayRun m k a r → Run m k a
run_asks m k a None d er ed h = absurd h
run_asks m k a (Some r) None er ed h = absurd (true≢false (sym h.3 ∙ ap (λ x. is_some (place_of x)) ed))
run_asks m k a (Some r) (Some d) er ed h = record { request = r; disk = d; is_open = er; its_address = h.0; is_disk = ed; unrun = h.1 }

-- what the request that runs must have come to
record Ready (a : ℕ) (p : Phase) : Type 0 where
  waits : p ≡ Waits a

ready_to_run : (r : Option OpenRequest) (closed done : Bool) (a : ℕ) (p : Phase) → option_map (λ q. q.address) r ≡ Some a → done ≡ false → Tells r closed done p → Ready a p
ready_to_run r closed done a New er ed h = let e : None ≡ Some a = sym (ap (option_map (λ (q : OpenRequest). q.address)) h.0) ∙ er in absurd (cc)
ready_to_run r closed done a (Waits b) er ed h = let e : Some b ≡ Some a = sym h.0 ∙ er in record { waits = cc }
ready_to_run r closed done a (HasRun b) er ed h = absurd (true≢false (sym h.2 ∙ ed))
ready_to_run r closed done a Over er ed h = let e : None ≡ Some a = sym (ap (option_map (λ (q : OpenRequest). q.address)) h.0) ∙ er in absurd (cc)

module _ (n : ℕ) (m : Machine) (k a : ℕ) where
  run_own : (w : Run m k a) → (n == k) ≡ true → At m n (Waits a) → At (run_at m k a (Some w.request) (Some w.disk)) n (HasRun a)
  run_own w e h = (h.0, h.1, ap (λ b. is_some (if b then Some (performed w.disk.bytes w.request.command).result else m.outcome n)) e)

  run_other : (w : Run m k a) → (n == k) ≡ false → (p : Phase) → At m n p → At (run_at m k a (Some w.request) (Some w.disk)) n p
  run_other w e p h =
      tells_same (finmap.get m.requests n) _ (set.contains m.closed n) _ (is_some (m.outcome n)) _ p refl refl
      (ap (λ b. is_some (if b then Some (performed w.disk.bytes w.request.command).result else m.outcome n)) e) h

  run_from : (w : Run m k a) (p : Phase) → At m n p → (b : Bool) → (n == k) ≡ b → Moves n m (Runs k a) p
  run_from w p h true e =
      let same : n ≡ k = eqb-true n k e in
      let ready = ready_to_run (finmap.get m.requests n) (set.contains m.closed n) (is_some (m.outcome n)) a p
      (ap (λ q. option_map (λ (x : OpenRequest). x.address) (finmap.get m.requests q)) same ∙ ap (option_map (λ (x : OpenRequest). x.address)) w.is_open ∙ ap Some w.its_address)
      (ap (λ q. is_some (m.outcome q)) same ∙ ap is_some w.unrun) h in
      record { to = HasRun a; at = rw (w.is_open, w.is_disk) (run_own w e (subst (At m n) ready.waits h)); adds = λ ms r. rw (e, ready.waits) (refl, r) }
  run_from w p h false e =
      record { to = p; at = rw (w.is_open, w.is_disk) (run_other w e p h); adds = λ ms r. rw (e) r }

  run_moves : (p : Phase) → Allowed m (Runs k a) → At m n p → Moves n m (Runs k a) p
  run_moves p h at = run_from (run_asks m k a (finmap.get m.requests k) (m.disks a) refl refl h) p at (n == k) refl

-- ---- an answer

no_outcome : (x : Option ScsiResult) → x ≡ None → is_some x ≡ true → ⊥
no_outcome x none some = true≢false (sym some ∙ ap is_some none)

an_outcome : (x : Option ScsiResult) (result : ScsiResult) → x ≡ Some result → is_some x ≡ false → ⊥
an_outcome x result is none = true≢false (sym (ap is_some is) ∙ none)

ends_life : (m : Machine) (k : ℕ) (r : Option OpenRequest) (closed : Bool) (how : Outcome) (p : Phase) → MayAnswer m k r how → Tells r closed (is_some (m.outcome k)) p → (ms : List LifeEvent) → ms ≡ [] → RestOf p (IsAnswered how ∷ ms)
ends_life m k None closed how p h t ms e = absurd h
ends_life m k (Some r) closed how New h t ms e = let clash : Some r ≡ None = t.0 in absurd (cc)
ends_life m k (Some r) closed how Over h t ms e = let clash : Some r ≡ None = t.0 in absurd (cc)
ends_life m k (Some r) closed (outcome.Done result) (Waits a) h t ms e = absurd (an_outcome (m.outcome k) result h t.2)
ends_life m k (Some r) closed outcome.Gone (Waits a) h t ms e = (tt, e)
ends_life m k (Some r) closed outcome.Terminated (Waits a) h t ms e = (tt, e)
ends_life m k (Some r) closed outcome.Reset (Waits a) h t ms e = (tt, e)
ends_life m k (Some r) closed (outcome.Done result) (HasRun a) h t ms e = (tt, e)
ends_life m k (Some r) closed outcome.Gone (HasRun a) h t ms e = absurd (no_outcome (m.outcome k) h.0 t.2)
ends_life m k (Some r) closed outcome.Terminated (HasRun a) h t ms e = absurd (no_outcome (m.outcome k) h.0 t.2)
ends_life m k (Some r) closed outcome.Reset (HasRun a) h t ms e = (tt, e)

module _ (n : ℕ) (m : Machine) (k : ℕ) (how : Outcome) where
  answer_from : (p : Phase) → MayAnswer m k (finmap.get m.requests k) how → At m n p → (b : Bool) → (n == k) ≡ b → Moves n m (Answers k how) p
  answer_from p h at true e =
      record {
        to = Over;
        at = (lost m.requests k n true e, joined m.closed k n true e);
        adds = λ ms r. rw (e) (ends_life m k (finmap.get m.requests k) (set.contains m.closed k) how p h (subst (λ q. At m q p) (eqb-true n k e) at) ms r);
      }
  answer_from p h at false e =
      record {
        to = p;
        at = tells_same (finmap.get m.requests n) _ (set.contains m.closed n) _ (is_some (m.outcome n)) _ p (lost m.requests k n false e) (joined m.closed k n false e) refl at;
        adds = λ ms r. rw (e) r;
      }

-- ---- every step

moves : (n : ℕ) (m : Machine) (step : Step) (p : Phase) → Allowed m step → At m n p → Moves n m step p
moves n m (Grants calls.Start) p h at = record { to = p; at = at; adds = λ ms r. r }
moves n m (Grants (calls.Submit k a c)) p h at = submit_moves n m k a c p h at
moves n m (Grants (calls.Abort k)) p h at = record { to = p; at = at; adds = λ ms r. r }
moves n m (Grants (calls.TargetReset a)) p h at = record { to = p; at = at; adds = λ ms r. r }
moves n m (Grants calls.Reset) p h at = record { to = p; at = at; adds = λ ms r. r }
moves n m (Grants calls.UnitReset) p h at = record { to = p; at = at; adds = λ ms r. r }
moves n m (Grants (calls.Plug a place)) p h at = record { to = p; at = at; adds = λ ms r. r }
moves n m (Grants (calls.Unplug a)) p h at = record { to = p; at = at; adds = λ ms r. r }
moves n m (Refuses c x) p h at = record { to = p; at = at; adds = λ ms r. r }
moves n m GetsUp p h at = record { to = p; at = at; adds = λ ms r. r }
moves n m (Runs k a) p h at = run_moves n m k a p h at
moves n m (Answers k how) p h at = answer_from n m k how p h at (n == k) refl
moves n m (EndsAbort k abort.Stopped) p h at = record { to = p; at = at; adds = λ ms r. r }
moves n m (EndsAbort k abort.NotFound) p h at = record { to = p; at = at; adds = λ ms r. r }
moves n m (EndsAbort k abort.Reset) p h at = record { to = p; at = at; adds = λ ms r. r }
moves n m (EndsTargetReset a how) p h at = record { to = p; at = at; adds = λ ms r. r }
moves n m (GetsReady a k) p h at = record { to = p; at = at; adds = λ ms r. r }
moves n m (IsLost a) p h at = record { to = p; at = at; adds = λ ms r. r }
moves n m Leaves p h at = record { to = p; at = at; adds = λ ms r. r }
moves n m HasLeft p h at = record { to = p; at = at; adds = λ ms r. r }
moves n m EndsReset p h at = record { to = p; at = at; adds = λ ms r. r }
moves n m Fails p h at = absurd h

lives_on : (n : ℕ) (m : Machine) (steps : List Step) (p : Phase) → At m n p → IsRunFrom m steps → RestOf p (filter_map (life_event_of n) steps)
lives_on n m [] p at h = begins p
lives_on n m (step ∷ steps) p at h =
    let move = moves n m step p h.0 at in
    move.adds _ (lives_on n (after m step) steps move.to move.at h.1)

-- in a run each request is accepted, runs at most once, at the disk it was accepted for, and has one answer
pub have_one_life : (disks : List DiskSpec) (steps : List Step) → IsRun disks steps → HaveOneLife steps
have_one_life disks steps h n = lives_on n (first_machine disks) steps New (finmap.get-empty nat_cmp n, set.contains-empty nat_cmp n) h
