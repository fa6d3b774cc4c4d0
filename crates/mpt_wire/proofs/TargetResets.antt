-- In a run of the machine the number of all open target resets is that of the addresses together.
use Rattle.std.proofs.Common.{◌≡◌, ℕ, ◌+◌, ◌-◌, ◌<◌, ◌==◌, Bool, true, false, if◌then◌else◌, List, [], ◌∷◌, length, Option, Some, None, refl, sym, ap, ◌∙◌, eqb-true, eq-eqb, zero-add, arith}
use Rattle.std.specs.FinMap as finmap
use Rattle.mpt_trace.specs.declared.disk_spec.DiskSpec.{DiskSpec}
use Rattle.mpt_trace.specs.declared.outcome.AbortOutcome.TheVariants as abort
use Rattle.mpt_wire.specs.Machine.State.{Machine, MachineDisk, OpenRequest, first_machine, put_at}
use Rattle.mpt_wire.specs.Machine.Causes as calls
use Rattle.mpt_wire.specs.Machine.Steps.{Step, Grants, Refuses, GetsUp, Runs, Answers, EndsAbort, EndsTargetReset, GetsReady, IsLost, Leaves, HasLeft, EndsReset, Fails, Allowed, IsRunFrom, after, after_all, accepted, run_at}

-- how often an address is in the list
abbrev times : ℕ → List ℕ → ℕ
times a [] = 0
times a (x ∷ xs) = (if a == x then 1 else 0) + times a xs

-- the open target resets are those of a list of addresses
record Counted (m : Machine) : Type 0 where
  addresses : List ℕ
  all : m.all_resets ≡ length addresses
  each : (a : ℕ) → m.resets a ≡ times a addresses

-- the list without one of these
abbrev drop_one : ℕ → List ℕ → List ℕ
drop_one a [] = []
drop_one a (x ∷ xs) = if a == x then xs else x ∷ drop_one a xs

shorter : (a : ℕ) (xs : List ℕ) → 0 < times a xs → length (drop_one a xs) + 1 ≡ length xs
shorter a [] h = absurd (omega arith)
shorter a (x ∷ xs) h = by_test (a == x) h (shorter a xs)
  where
    by_test : (b : Bool) → 0 < (if b then 1 else 0) + times a xs → (0 < times a xs → length (drop_one a xs) + 1 ≡ length xs) → length (if b then xs else x ∷ drop_one a xs) + 1 ≡ length (x ∷ xs)
    by_test true h more = omega arith
    by_test false h more = let e = more (omega arith) in omega arith

rarer : (a : ℕ) (xs : List ℕ) → times a (drop_one a xs) ≡ times a xs - 1
rarer a [] = refl
rarer a (x ∷ xs) = by_test (a == x) refl (rarer a xs)
  where
    by_test : (b : Bool) → (a == x) ≡ b → times a (drop_one a xs) ≡ times a xs - 1 → times a (if b then xs else x ∷ drop_one a xs) ≡ (if b then 1 else 0) + times a xs - 1
    by_test true e more = omega arith
    by_test false e more = rw (e) (omega arith)

as_often : (a q : ℕ) (xs : List ℕ) → (q == a) ≡ false → times q (drop_one a xs) ≡ times q xs
as_often a q [] other = refl
as_often a q (x ∷ xs) other = by_test (a == x) refl (as_often a q xs other)
  where
    by_test : (b : Bool) → (a == x) ≡ b → times q (drop_one a xs) ≡ times q xs → times q (if b then xs else x ∷ drop_one a xs) ≡ (if q == x then 1 else 0) + times q xs
    by_test true e more = let is : a ≡ x = eqb-true a x e in sym (zero-add (times q xs)) ∙ ap (λ b. (if b then 1 else 0) + times q xs) (sym other ∙ ap (λ y. q == y) is)
    by_test false e more = ap (λ n. (if q == x then 1 else 0) + n) more

-- the same target resets are open
the_same : (m k : Machine) → k.resets ≡ m.resets → k.all_resets ≡ m.all_resets → Counted m → Counted k
the_same m k each all c = record { addresses = c.addresses; all = all ∙ c.all; each = λ a. ap (λ f. f a) each ∙ c.each a }

one_more : (m : Machine) (a : ℕ) → Counted m → Counted (after m (Grants (calls.TargetReset a)))
one_more m a c =
    record {
      addresses = a ∷ c.addresses;
      all = let e = c.all in omega arith;
      each = λ q. by_test q (q == a) refl;
    }
  where
    by_test : (q : ℕ) (b : Bool) → (q == a) ≡ b → (if b then m.resets a + 1 else m.resets q) ≡ (if b then 1 else 0) + times q c.addresses
    by_test q true e = let is : q ≡ a = eqb-true q a e in ap (λ x. m.resets x + 1) (sym is) ∙ (let t = c.each q in omega arith)
    by_test q false e = let t = c.each q in omega arith

one_less : (m : Machine) (a : ℕ) → 0 < m.resets a → Counted m → (k : Machine) → k.resets ≡ put_at a (m.resets a - 1) m.resets → k.all_resets ≡ m.all_resets - 1 → Counted k
one_less m a some c k each all =
    let t = c.each a in
    let short = shorter a c.addresses (omega arith) in
    let e = c.all in
    record {
      addresses = drop_one a c.addresses;
      all = all ∙ omega arith;
      each = λ q. ap (λ f. f q) each ∙ by_test q (q == a) refl;
    }
  where
    by_test : (q : ℕ) (b : Bool) → (q == a) ≡ b → (if b then m.resets a - 1 else m.resets q) ≡ times q (drop_one a c.addresses)
    by_test q true e = let is : q ≡ a = eqb-true q a e in ap (λ n. n - 1) (c.each a) ∙ sym (rarer a c.addresses) ∙ ap (λ x. times x (drop_one a c.addresses)) (sym is)
    by_test q false e = c.each q ∙ sym (as_often a q c.addresses e)

counted_step : (m : Machine) (step : Step) → Allowed m step → Counted m → Counted (after m step)
counted_step m (Grants calls.Start) h c = the_same m _ refl refl c
counted_step m (Grants (calls.Submit n a command)) h c = accepted_same (m.ready a)
  where
    accepted_same : (o : Option ℕ) → Counted (accepted m n a command o)
    accepted_same None = c
    accepted_same (Some plug) = the_same m _ refl refl c
counted_step m (Grants (calls.Abort n)) h c = the_same m _ refl refl c
counted_step m (Grants (calls.TargetReset a)) h c = one_more m a c
counted_step m (Grants calls.Reset) h c = the_same m _ refl refl c
counted_step m (Grants calls.UnitReset) h c = the_same m _ refl refl c
counted_step m (Grants (calls.Plug a place)) h c = the_same m _ refl refl c
counted_step m (Grants (calls.Unplug a)) h c = the_same m _ refl refl c
counted_step m (Refuses call cause) h c = c
counted_step m GetsUp h c = the_same m _ refl refl c
counted_step m (Runs n a) h c = run_same (finmap.get m.requests n) (m.disks a)
  where
    run_same : (r : Option OpenRequest) (d : Option MachineDisk) → Counted (run_at m n a r d)
    run_same None d = c
    run_same (Some r) None = c
    run_same (Some r) (Some d) = the_same m _ refl refl c
counted_step m (Answers n how) h c = the_same m _ refl refl c
counted_step m (EndsAbort n abort.Stopped) h c = the_same m _ refl refl c
counted_step m (EndsAbort n abort.NotFound) h c = the_same m _ refl refl c
counted_step m (EndsAbort n abort.Reset) h c = the_same m _ refl refl c
counted_step m (EndsTargetReset a how) h c = one_less m a h.0 c _ refl refl
counted_step m (GetsReady a k) h c = the_same m _ refl refl c
counted_step m (IsLost a) h c = the_same m _ refl refl c
counted_step m Leaves h c = the_same m _ refl refl c
counted_step m HasLeft h c = the_same m _ refl refl c
counted_step m EndsReset h c = the_same m _ refl refl c
counted_step m Fails h c = absurd h

counted_run : (m : Machine) (steps : List Step) → IsRunFrom m steps → Counted m → Counted (after_all m steps)
counted_run m [] h c = c
counted_run m (step ∷ steps) h c = counted_run (after m step) steps h.1 (counted_step m step h.0 c)

none_left : (m : Machine) (xs : List ℕ) → m.all_resets ≡ length xs → ((a : ℕ) → m.resets a ≡ times a xs) → ((a : ℕ) → m.resets a ≡ 0) → m.all_resets ≡ 0
none_left m [] all each none = all
none_left m (x ∷ xs) all each none =
    let here : m.resets x ≡ 1 + times x xs = each x ∙ ap (λ b. (if b then 1 else 0) + times x xs) (eq-eqb x x refl) in
    let zero_here = none x in
    absurd (omega arith)

-- where no address has an open target reset, there is none at all
pub no_target_resets : (disks : List DiskSpec) (steps : List Step) → IsRunFrom (first_machine disks) steps → ((a : ℕ) → (after_all (first_machine disks) steps).resets a ≡ 0) → (after_all (first_machine disks) steps).all_resets ≡ 0
no_target_resets disks steps h none =
    let c = counted_run (first_machine disks) steps h (record { addresses = []; all = refl; each = λ a. refl }) in
    none_left (after_all (first_machine disks) steps) c.addresses c.all c.each none
