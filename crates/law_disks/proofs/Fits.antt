-- What holds of the machine of disks is kept by each step that it allows.
use Rattle.std.proofs.Common.{◌≡◌, ◌≢◌, ℕ, ◌+◌, ◌-◌, ◌≤◌, ◌==◌, ◌&&◌, ◌||◌, not, nat_lt, cond, Bool, true, false, if◌then◌else◌, List, [], ◌∷◌, ◌++◌, Option, Some, None, is_some, refl, ap, sym, ◌∙◌, subst, arith}
use Rattle.std.specs.FinMap as finmap
use Rattle.std.specs.FinSet as set
use Rattle.std.specs.Ordering.{eq_by_cmp, nat_cmp}
use Rattle.std.proofs.lemmas.Cmp.{nat_cmp_total}
use Rattle.std.proofs.lemmas.Bool.{eqb-true}
use Rattle.scsi_disk.specs.Performed.{performed}
use Rattle.scsi_disk.specs.declared.command.Command.{Command}
use Rattle.scsi_disk.specs.declared.scsi_result.ScsiResult.{ScsiResult}
use Rattle.mpt_wire.specs.Machine.Causes as calls
use Rattle.mpt_wire.specs.Machine.Causes.{Call}
use Rattle.mpt_wire.specs.Machine.State.{Machine, MachineDisk, OpenRequest, Place, plugs_of, put_at}
use Rattle.mpt_wire.specs.Machine.Steps.{Allowed, Answers, EndsAbort, EndsReset, EndsTargetReset, Fails, GetsReady, GetsUp, Grants, HasLeft, IsLost, IsRunFrom, Leaves, MayRun, Refuses, Runs, Step, accepted, after, after_abort_end, after_all, asked_at, run_at, with_plug, without_plug}
use Rattle.mpt_wire.specs.Machine.View.{Seen, seen_next, steps_of}
use Rattle.mpt_wire.specs.Walks.Ahead.{next_own, state_ahead}
use Rattle.mpt_trace.specs.declared.entry.Entry.{Entry}
use Rattle.mpt_trace.specs.declared.outcome.AbortOutcome.{AbortOutcome}
use Rattle.mpt_trace.specs.declared.outcome.AbortOutcome.TheVariants as abort
use Rattle.law_machine.proofs.Silent.{Passed}
use Rattle.law_messages.proofs.Keys.{get_inserted, get_other_inserted, removed_less, same_key}
use Rattle.law_disks.specs.Machine.{EachRequestFits, MachineFits, Numbers, PlugsFit, RequestFits, Requests, is_known}

-- ---- over the entries of a case

pub no_more : {X : Type 0} (t : List X) → t ++ [] ≡ t
no_more [] = refl
no_more (x ∷ t) = ap (λ u. x ∷ u) (no_more t)

module _ (P : Machine → Type 0) (keeps : (m : Machine) (x : Step) → Allowed m x → P m → P (after m x)) where
  steps_kept : (m : Machine) (xs : List Step) → IsRunFrom m xs → P m → P (after_all m xs)
  steps_kept m [] r p = p
  steps_kept m (x ∷ xs) r p = steps_kept (after m x) xs r.1 (keeps m x r.0 p)

  pub run_kept : (g : Seen) (t : List Entry) → Passed g t → P g.machine → P (state_ahead seen_next g t []).machine
  run_kept g [] r p = p
  run_kept g (e ∷ t) r p =
      subst (λ u. P (state_ahead seen_next (seen_next g e (next_own e u)) t []).machine) (sym (no_more t))
      (run_kept (seen_next g e (next_own e t)) t r.1 (steps_kept g.machine (steps_of g.so_far e (next_own e t)) r.0 p))

-- ---- keys

differ : (m n : ℕ) → (m == n) ≡ false → m ≢ n
differ m n t e = grind (arith, t, e)

pub inserted_set : (s : Numbers) (n k : ℕ) → set.contains (set.insert s n) k ≡ ((k == n) || set.contains s k)
inserted_set s n k = set.contains-insert nat_cmp_total s n k ∙ ap (λ b. b || set.contains s k) (same_key k n)

removed_set : (s : Numbers) (n k : ℕ) → set.contains (set.remove s n) k ≡ true → set.contains s k ≡ true
removed_set s n k e = by_key (eq_by_cmp nat_cmp k n) (set.contains s k) (sym (set.contains-remove nat_cmp_total s n k) ∙ e)
  where
    by_key : (b c : Bool) → (not b && c) ≡ true → c ≡ true
    by_key true c e = absurd (cc)
    by_key false c e = e

inserted_is : (rs : Requests) (n : ℕ) (r : OpenRequest) (k : ℕ) → is_some (finmap.get (finmap.insert rs n r) k) ≡ ((k == n) || is_some (finmap.get rs k))
inserted_is rs n r k = ap is_some (finmap.get-insert nat_cmp_total rs n r k) ∙ by_key (eq_by_cmp nat_cmp k n) ∙ ap (λ b. b || is_some (finmap.get rs k)) (same_key k n)
  where
    by_key : (b : Bool) → is_some (cond b (Some r) (finmap.get rs k)) ≡ (b || is_some (finmap.get rs k))
    by_key true = refl
    by_key false = refl

pub removed_is : (rs : Requests) (n k : ℕ) → is_some (finmap.get (finmap.remove rs n) k) ≡ (not (k == n) && is_some (finmap.get rs k))
removed_is rs n k = ap is_some (finmap.get-remove nat_cmp_total rs n k) ∙ by_key (eq_by_cmp nat_cmp k n) ∙ ap (λ b. not b && is_some (finmap.get rs k)) (same_key k n)
  where
    by_key : (b : Bool) → is_some (cond b None (finmap.get rs k)) ≡ (not b && is_some (finmap.get rs k))
    by_key true = refl
    by_key false = refl

-- ---- plugs

module _ (d e : ℕ → Option MachineDisk) (more : (a : ℕ) → plugs_of (d a) ≤ plugs_of (e a)) where
  grown : (ready : ℕ → Option ℕ) (made : ℕ → ℕ) → PlugsFit d ready made → PlugsFit e ready made
  grown ready made p =
      record {
        made_fits = λ a. let x = p.made_fits a in let y = more a in omega (arith, x, y);
        ready_fits = λ a k t. let x = p.ready_fits a k t in let b = x.0 in let c = x.1 in let y = more a in (b, omega (arith, c, y));
      }

  module _ (o : ℕ → Option ScsiResult) (asked ran : ℕ → Bool) (aborts : Numbers) (resets : ℕ → ℕ) where
    grown_request : (n : ℕ) (r : OpenRequest) → RequestFits d o asked ran aborts resets n r → RequestFits e o asked ran aborts resets n r
    grown_request n r p = record { least = p.least; most = (let x = p.most in let y = more r.address in omega (arith, x, y)); has_run = p.has_run; reset = p.reset; aborted = p.aborted }

placed : (a : ℕ) (x : Option MachineDisk) (d : ℕ → Option MachineDisk) → plugs_of (d a) ≤ plugs_of x → (b : ℕ) → plugs_of (d b) ≤ plugs_of (put_at a x d b)
placed a x d l b = by_key (b == a) refl
  where
    by_key : (t : Bool) → (b == a) ≡ t → plugs_of (d b) ≤ plugs_of (if t then x else d b)
    by_key true t = subst (λ j. plugs_of (d j) ≤ plugs_of x) (sym (eqb-true b a t)) l
    by_key false t = omega arith

plugged_more : (place : Place) (o : Option MachineDisk) → plugs_of o ≤ plugs_of (with_plug place o)
plugged_more place None = omega arith
plugged_more place (Some d) = omega arith

unplugged_same : (o : Option MachineDisk) → plugs_of o ≤ plugs_of (without_plug o)
unplugged_same None = omega arith
unplugged_same (Some d) = omega arith

-- a machine whose disks are others, with as many plugs at least
with_disks : (m : Machine) (e : ℕ → Option MachineDisk) → ((a : ℕ) → plugs_of (m.disks a) ≤ plugs_of (e a)) → MachineFits m → MachineFits (record m { disks = e })
with_disks m e more p =
    record { plugs = grown m.disks e more m.ready m.made p.plugs; numbers = p.numbers; opened = λ n r g. grown_request m.disks e more m.outcome m.asked m.ran m.aborts m.resets n r (p.opened n r g) }

-- ---- a disk is ready, or lost

gets_ready : (m : Machine) (a k : ℕ) → 1 ≤ k → k ≤ plugs_of (m.disks a) → MachineFits m → MachineFits (record m { ready = put_at a (Some k) m.ready; made = put_at a k m.made })
gets_ready m a k l u p = record { plugs = record { made_fits = made_fits; ready_fits = ready_fits }; numbers = p.numbers; opened = p.opened }
  where
    made_fits : (b : ℕ) → put_at a k m.made b ≤ plugs_of (m.disks b)
    made_fits b = by_key (b == a) refl
      where
        by_key : (t : Bool) → (b == a) ≡ t → (if t then k else m.made b) ≤ plugs_of (m.disks b)
        by_key true t = subst (λ j. k ≤ plugs_of (m.disks j)) (sym (eqb-true b a t)) u
        by_key false t = p.plugs.made_fits b

    ready_fits : (b n : ℕ) → put_at a (Some k) m.ready b ≡ Some n → (1 ≤ n) × (n ≤ plugs_of (m.disks b))
    ready_fits b n = by_key (b == a) refl
      where
        by_key : (t : Bool) → (b == a) ≡ t → (if t then Some k else m.ready b) ≡ Some n → (1 ≤ n) × (n ≤ plugs_of (m.disks b))
        by_key true t e = let z : k ≡ n = cc in let y : k ≤ plugs_of (m.disks b) = subst (λ j. k ≤ plugs_of (m.disks j)) (sym (eqb-true b a t)) u in subst (λ j. (1 ≤ j) × (j ≤ plugs_of (m.disks b))) z (l, y)
        by_key false t e = p.plugs.ready_fits b n e

is_lost : (m : Machine) (a : ℕ) → MachineFits m → MachineFits (record m { ready = put_at a None m.ready })
is_lost m a p = record { plugs = record { made_fits = p.plugs.made_fits; ready_fits = ready_fits }; numbers = p.numbers; opened = p.opened }
  where
    ready_fits : (b n : ℕ) → put_at a None m.ready b ≡ Some n → (1 ≤ n) × (n ≤ plugs_of (m.disks b))
    ready_fits b n = by_key (b == a)
      where
        by_key : (t : Bool) → (if t then None else m.ready b) ≡ Some n → (1 ≤ n) × (n ≤ plugs_of (m.disks b))
        by_key true e = absurd (cc)
        by_key false e = p.plugs.ready_fits b n e

ends_reset : (m : Machine) → MachineFits m → MachineFits (after m EndsReset)
ends_reset m p = record { plugs = record { made_fits = λ a. omega arith; ready_fits = λ a k e. absurd (cc) }; numbers = p.numbers; opened = p.opened }

-- ---- a submission

module _ (m : Machine) (n a plug : ℕ) (command : Command) (fresh : is_known m.requests m.closed n ≡ false) (ready : m.ready a ≡ Some plug) (p : MachineFits m) where
  abbrev opened_now : OpenRequest
  opened_now = record { address = a; plug = plug; command = command }

  halves : (b c : Bool) → (b || c) ≡ false → (b ≡ false) × (c ≡ false)
  halves true c e = absurd (cc)
  halves false c e = (refl, e)

  submits : MachineFits (accepted m n a command (Some plug))
  submits = record { plugs = p.plugs; numbers = record { unused = unused; named = named; apart = apart }; opened = opened }
    where
      known : (k : ℕ) → is_known (finmap.insert m.requests n opened_now) m.closed k ≡ ((k == n) || is_known m.requests m.closed k)
      known k = ap (λ b. b || set.contains m.closed k) (inserted_is m.requests n opened_now k) ∙ assoc (k == n) (is_some (finmap.get m.requests k)) (set.contains m.closed k)
        where
          assoc : (x y z : Bool) → ((x || y) || z) ≡ (x || (y || z))
          assoc true y z = refl
          assoc false y z = refl

      unused : (k : ℕ) → is_known (finmap.insert m.requests n opened_now) m.closed k ≡ false → m.ran k ≡ false
      unused k e = p.numbers.unused k (halves (k == n) (is_known m.requests m.closed k) (sym (known k) ∙ e)).1

      named : (k : ℕ) → set.contains m.aborts k ≡ true → is_known (finmap.insert m.requests n opened_now) m.closed k ≡ true
      named k e = known k ∙ later (k == n) (is_known m.requests m.closed k) (p.numbers.named k e)
        where
          later : (x y : Bool) → y ≡ true → (x || y) ≡ true
          later true y e = refl
          later false y e = e

      apart : (k : ℕ) → is_some (finmap.get (finmap.insert m.requests n opened_now) k) ≡ true → set.contains m.closed k ≡ false
      apart k e = by_key (k == n) refl (sym (inserted_is m.requests n opened_now k) ∙ e)
        where
          by_key : (t : Bool) → (k == n) ≡ t → (t || is_some (finmap.get m.requests k)) ≡ true → set.contains m.closed k ≡ false
          by_key true t e = subst (λ j. set.contains m.closed j ≡ false) (sym (eqb-true k n t)) (halves (is_some (finmap.get m.requests n)) (set.contains m.closed n) fresh).1
          by_key false t e = p.numbers.apart k e

      no_abort : set.contains m.aborts n ≡ true → {T : Type 0} → T
      no_abort e = let z : true ≡ false = sym (p.numbers.named n e) ∙ fresh in absurd (cc)

      above : (k : ℕ) → 1 ≤ k → nat_lt 0 k ≡ true
      above k l = grind (arith, l)

      itself : (k : ℕ) → (k == k) ≡ true
      itself k = grind arith

      new : RequestFits m.disks (put_at n None m.outcome) (put_at n (nat_lt 0 (m.resets a)) m.asked) m.ran m.aborts m.resets n opened_now
      new =
          let y = p.plugs.ready_fits a plug ready in
          let i = itself n in
          record {
            least = y.0;
            most = y.1;
            has_run = ap (λ b. is_some (if b then None else m.outcome n)) i ∙ sym (p.numbers.unused n fresh);
            reset = λ l. ap (λ b. if b then nat_lt 0 (m.resets a) else m.asked n) i ∙ above (m.resets a) l;
            aborted = λ e. no_abort e;
          }

      other : (k : ℕ) (r : OpenRequest) → (k == n) ≡ false → RequestFits m.disks m.outcome m.asked m.ran m.aborts m.resets k r → RequestFits m.disks (put_at n None m.outcome) (put_at n (nat_lt 0 (m.resets a)) m.asked) m.ran m.aborts m.resets k r
      other k r t q =
          record {
            least = q.least;
            most = q.most;
            has_run = ap (λ b. is_some (if b then None else m.outcome k)) t ∙ q.has_run;
            reset = λ l. ap (λ b. if b then nat_lt 0 (m.resets a) else m.asked k) t ∙ q.reset l;
            aborted = λ e. ap (λ b. if b then nat_lt 0 (m.resets a) else m.asked k) t ∙ q.aborted e;
          }

      opened : EachRequestFits (accepted m n a command (Some plug))
      opened k r e = by_key (k == n) refl
        where
          by_key : (t : Bool) → (k == n) ≡ t → RequestFits m.disks (put_at n None m.outcome) (put_at n (nat_lt 0 (m.resets a)) m.asked) m.ran m.aborts m.resets k r
          by_key true t =
              let i : k ≡ n = eqb-true k n t in
              let g : finmap.get (finmap.insert m.requests n opened_now) n ≡ Some r = subst (λ j. finmap.get (finmap.insert m.requests n opened_now) j ≡ Some r) i e in
              let z : opened_now ≡ r = some_is (sym (get_inserted m.requests n opened_now) ∙ g) in
              subst (λ j. RequestFits m.disks (put_at n None m.outcome) (put_at n (nat_lt 0 (m.resets a)) m.asked) m.ran m.aborts m.resets j r) (sym i)
              (subst (λ q. RequestFits m.disks (put_at n None m.outcome) (put_at n (nat_lt 0 (m.resets a)) m.asked) m.ran m.aborts m.resets n q) z new)
            where
              some_is : Some opened_now ≡ Some r → opened_now ≡ r
              some_is e = cc
          by_key false t = other k r t (p.opened k r (sym (get_other_inserted m.requests n opened_now k (differ k n t)) ∙ e))

-- ---- an abort, a target reset

asks_abort : (m : Machine) (n : ℕ) → is_some (finmap.get m.requests n) ≡ true → MachineFits m → MachineFits (record m { aborts = set.insert m.aborts n; asked = put_at n true m.asked })
asks_abort m n o p = record { plugs = p.plugs; numbers = record { unused = p.numbers.unused; named = named; apart = p.numbers.apart }; opened = opened }
  where
    named : (k : ℕ) → set.contains (set.insert m.aborts n) k ≡ true → is_known m.requests m.closed k ≡ true
    named k e = by_key (k == n) refl (sym (inserted_set m.aborts n k) ∙ e)
      where
        by_key : (t : Bool) → (k == n) ≡ t → (t || set.contains m.aborts k) ≡ true → is_known m.requests m.closed k ≡ true
        by_key true t e = subst (λ j. is_known m.requests m.closed j ≡ true) (sym (eqb-true k n t)) (ap (λ b. b || set.contains m.closed n) o)
        by_key false t e = p.numbers.named k e

    opened : (k : ℕ) (r : OpenRequest) → finmap.get m.requests k ≡ Some r → RequestFits m.disks m.outcome (put_at n true m.asked) m.ran (set.insert m.aborts n) m.resets k r
    opened k r e =
        let q = p.opened k r e in
        record {
          least = q.least;
          most = q.most;
          has_run = q.has_run;
          reset = λ l. either (k == n) (m.asked k) (q.reset l);
          aborted = λ g. by_key (k == n) (set.contains m.aborts k) (m.asked k) (sym (inserted_set m.aborts n k) ∙ g) q.aborted;
        }
      where
        either : (b c : Bool) → c ≡ true → (if b then true else c) ≡ true
        either true c e = refl
        either false c e = e

        by_key : (b x c : Bool) → (b || x) ≡ true → (x ≡ true → c ≡ true) → (if b then true else c) ≡ true
        by_key true x c e f = refl
        by_key false x c e f = f e

asks_target : (m : Machine) (a : ℕ) → MachineFits m → MachineFits (after m (Grants (calls.TargetReset a)))
asks_target m a p = record { plugs = p.plugs; numbers = p.numbers; opened = opened }
  where
    opened : EachRequestFits (after m (Grants (calls.TargetReset a)))
    opened k r e =
        let q = p.opened k r e in
        record {
          least = q.least;
          most = q.most;
          has_run = q.has_run;
          reset = λ l. ap (λ o. asked_at a o (m.asked k)) e ∙ by_key (r.address == a) refl l;
          aborted = λ g. ap (λ o. asked_at a o (m.asked k)) e ∙ either (r.address == a) (m.asked k) (q.aborted g);
        }
      where
        either : (b c : Bool) → c ≡ true → (if b then true else c) ≡ true
        either true c e = refl
        either false c e = e

        by_key : (t : Bool) → (r.address == a) ≡ t → 1 ≤ (if t then m.resets a + 1 else m.resets r.address) → (if t then true else m.asked k) ≡ true
        by_key true t l = refl
        by_key false t l = (p.opened k r e).reset l

ends_target : (m : Machine) (a : ℕ) → MachineFits m → MachineFits (record m { resets = put_at a (m.resets a - 1) m.resets; all_resets = m.all_resets - 1 })
ends_target m a p = record { plugs = p.plugs; numbers = p.numbers; opened = opened }
  where
    less : (b : ℕ) → put_at a (m.resets a - 1) m.resets b ≤ m.resets b
    less b = by_key (b == a) refl
      where
        by_key : (t : Bool) → (b == a) ≡ t → (if t then m.resets a - 1 else m.resets b) ≤ m.resets b
        by_key true t = subst (λ j. m.resets a - 1 ≤ m.resets j) (sym (eqb-true b a t)) (omega arith)
        by_key false t = omega arith

    opened : (k : ℕ) (r : OpenRequest) → finmap.get m.requests k ≡ Some r → RequestFits m.disks m.outcome m.asked m.ran m.aborts (put_at a (m.resets a - 1) m.resets) k r
    opened k r e = let q = p.opened k r e in record { least = q.least; most = q.most; has_run = q.has_run; reset = λ l. q.reset (let x = less r.address in omega (arith, l, x)); aborted = q.aborted }

-- ---- ends

answered : (m : Machine) (n : ℕ) → is_some (finmap.get m.requests n) ≡ true → MachineFits m → MachineFits (record m { requests = finmap.remove m.requests n; closed = set.insert m.closed n })
answered m n o p = record { plugs = p.plugs; numbers = record { unused = unused; named = named; apart = apart }; opened = λ k r e. p.opened k r (removed_less m.requests n k r e) }
  where
    known : (k : ℕ) → is_known (finmap.remove m.requests n) (set.insert m.closed n) k ≡ is_known m.requests m.closed k
    known k = ap (λ b. b || set.contains (set.insert m.closed n) k) (removed_is m.requests n k) ∙ (ap (λ b. (not (k == n) && is_some (finmap.get m.requests k)) || b) (inserted_set m.closed n k) ∙ by_key (k == n) refl)
      where
        by_key : (t : Bool) → (k == n) ≡ t → ((not t && is_some (finmap.get m.requests k)) || (t || set.contains m.closed k)) ≡ (is_some (finmap.get m.requests k) || set.contains m.closed k)
        by_key true t = sym (ap (λ b. b || set.contains m.closed k) (subst (λ j. is_some (finmap.get m.requests j) ≡ true) (sym (eqb-true k n t)) o))
        by_key false t = refl

    unused : (k : ℕ) → is_known (finmap.remove m.requests n) (set.insert m.closed n) k ≡ false → m.ran k ≡ false
    unused k e = p.numbers.unused k (sym (known k) ∙ e)

    named : (k : ℕ) → set.contains m.aborts k ≡ true → is_known (finmap.remove m.requests n) (set.insert m.closed n) k ≡ true
    named k e = known k ∙ p.numbers.named k e

    apart : (k : ℕ) → is_some (finmap.get (finmap.remove m.requests n) k) ≡ true → set.contains (set.insert m.closed n) k ≡ false
    apart k e = inserted_set m.closed n k ∙ by_key (k == n) (is_some (finmap.get m.requests k)) (set.contains m.closed k) (sym (removed_is m.requests n k) ∙ e) (p.numbers.apart k)
      where
        by_key : (t x c : Bool) → (not t && x) ≡ true → (x ≡ true → c ≡ false) → (t || c) ≡ false
        by_key true x c e f = absurd (cc)
        by_key false x c e f = f e

unaborted : (m : Machine) (n : ℕ) → MachineFits m → MachineFits (record m { aborts = set.remove m.aborts n })
unaborted m n p =
    record {
      plugs = p.plugs;
      numbers = record { unused = p.numbers.unused; named = λ k e. p.numbers.named k (removed_set m.aborts n k e); apart = p.numbers.apart };
      opened = λ k r e. let q = p.opened k r e in record { least = q.least; most = q.most; has_run = q.has_run; reset = q.reset; aborted = λ g. q.aborted (removed_set m.aborts n k g) };
    }

ends_abort : (m : Machine) (n : ℕ) (how : AbortOutcome) → MachineFits m → MachineFits (after_abort_end m n how)
ends_abort m n abort.Stopped p = let q = unaborted m n p in record { plugs = q.plugs; numbers = q.numbers; opened = q.opened }
ends_abort m n abort.NotFound p = let q = unaborted m n p in record { plugs = q.plugs; numbers = q.numbers; opened = q.opened }
ends_abort m n abort.Reset p = unaborted m n p

-- ---- a run

ran : (m : Machine) (n : ℕ) (r : OpenRequest) (x : ScsiResult) → finmap.get m.requests n ≡ Some r → MachineFits m → MachineFits (record m { outcome = put_at n (Some x) m.outcome; ran = put_at n true m.ran })
ran m n r x o p = record { plugs = p.plugs; numbers = record { unused = unused; named = p.numbers.named; apart = p.numbers.apart }; opened = opened }
  where
    unused : (k : ℕ) → is_known m.requests m.closed k ≡ false → put_at n true m.ran k ≡ false
    unused k e = by_key (k == n) refl
      where
        by_key : (t : Bool) → (k == n) ≡ t → (if t then true else m.ran k) ≡ false
        by_key true t =
            let y : is_some (finmap.get m.requests k) ≡ true = ap (λ j. is_some (finmap.get m.requests j)) (eqb-true k n t) ∙ ap is_some o in
            let z : true ≡ false = sym (ap (λ b. b || set.contains m.closed k) y) ∙ e in absurd (cc)
        by_key false t = p.numbers.unused k e

    opened : (k : ℕ) (q : OpenRequest) → finmap.get m.requests k ≡ Some q → RequestFits m.disks (put_at n (Some x) m.outcome) m.asked (put_at n true m.ran) m.aborts m.resets k q
    opened k q e =
        let y = p.opened k q e in
        record { least = y.least; most = y.most; has_run = by_key (k == n) (m.outcome k) (m.ran k) y.has_run; reset = y.reset; aborted = y.aborted }
      where
        by_key : (t : Bool) (a : Option ScsiResult) (b : Bool) → is_some a ≡ b → is_some (if t then Some x else a) ≡ (if t then true else b)
        by_key true a b f = refl
        by_key false a b f = f

runs : (m : Machine) (n a : ℕ) (o : Option OpenRequest) (d : Option MachineDisk) → finmap.get m.requests n ≡ o → m.disks a ≡ d → MachineFits m → MachineFits (run_at m n a o d)
runs m n a None d g e p = p
runs m n a (Some r) None g e p = p
runs m n a (Some r) (Some d) g e p =
    let y = performed d.bytes r.command in
    let x = record d { bytes = y.bytes } in
    let q = with_disks m (put_at a (Some x) m.disks) (placed a (Some x) m.disks (subst (λ z. plugs_of z ≤ d.plugs) (sym e) (omega arith))) p in
    ran (record m { disks = put_at a (Some x) m.disks }) n r y.result g q

-- ---- each step

used_is : (m : Machine) (n : ℕ) (b : Bool) (o : Option Rattle.mpt_trace.specs.declared.refusal.Refusal.Refusal) → (if b then Some Rattle.mpt_trace.specs.declared.refusal.Refusal.TheVariants.NumberUsed else o) ≡ None → b ≡ false
used_is m n true o e = absurd (cc)
used_is m n false o e = refl

open_is : (u o x y : Bool) → (if not u then Some Rattle.mpt_trace.specs.declared.refusal.Refusal.TheVariants.NotOperational else (if not o then Some Rattle.mpt_trace.specs.declared.refusal.Refusal.TheVariants.NotOpen else (if x then Some Rattle.mpt_trace.specs.declared.refusal.Refusal.TheVariants.AbortOpen else (if y then Some Rattle.mpt_trace.specs.declared.refusal.Refusal.TheVariants.NoIdentifier else None)))) ≡ None → o ≡ true
open_is false o x y e = absurd (cc)
open_is true false x y e = absurd (cc)
open_is true true x y e = refl

submission : (m : Machine) (n a : ℕ) (command : Command) (o : Option ℕ) → m.ready a ≡ o → is_known m.requests m.closed n ≡ false → MachineFits m → MachineFits (accepted m n a command o)
submission m n a command None e f p = p
submission m n a command (Some plug) e f p = submits m n a plug command f e p

pub step_fits : (m : Machine) (x : Step) → Allowed m x → MachineFits m → MachineFits (after m x)
step_fits m (Grants calls.Start) l p = record { plugs = p.plugs; numbers = p.numbers; opened = p.opened }
step_fits m (Grants (calls.Submit n a command)) l p = submission m n a command (m.ready a) refl (used_is m n (calls.is_used m n) _ l.0) p
step_fits m (Grants (calls.Abort n)) l p = asks_abort m n (open_is (calls.is_up m.mode) (calls.is_open m n) (set.contains m.aborts n) (calls.is_high_full m) l.0) p
step_fits m (Grants (calls.TargetReset a)) l p = asks_target m a p
step_fits m (Grants calls.Reset) l p = record { plugs = p.plugs; numbers = p.numbers; opened = p.opened }
step_fits m (Grants calls.UnitReset) l p = record { plugs = p.plugs; numbers = p.numbers; opened = p.opened }
step_fits m (Grants (calls.Plug a place)) l p = with_disks m (put_at a (with_plug place (m.disks a)) m.disks) (placed a (with_plug place (m.disks a)) m.disks (plugged_more place (m.disks a))) p
step_fits m (Grants (calls.Unplug a)) l p = with_disks m (put_at a (without_plug (m.disks a)) m.disks) (placed a (without_plug (m.disks a)) m.disks (unplugged_same (m.disks a))) p
step_fits m (Refuses call cause) l p = p
step_fits m GetsUp l p = record { plugs = p.plugs; numbers = p.numbers; opened = p.opened }
step_fits m (Runs n a) l p = runs m n a (finmap.get m.requests n) (m.disks a) refl refl p
step_fits m (Answers n how) l p = answered m n (there (finmap.get m.requests n) how l) p
  where
    there : (o : Option OpenRequest) (how : Rattle.mpt_trace.specs.declared.outcome.Outcome.Outcome) → Rattle.mpt_wire.specs.Machine.Steps.MayAnswer m n o how → is_some o ≡ true
    there None how l = absurd l
    there (Some r) how l = refl
step_fits m (EndsAbort n how) l p = ends_abort m n how p
step_fits m (EndsTargetReset a how) l p = ends_target m a p
step_fits m (GetsReady a plug) l p = gets_ready m a plug l.0 l.1 p
step_fits m (IsLost a) l p = is_lost m a p
step_fits m Leaves l p = record { plugs = p.plugs; numbers = p.numbers; opened = p.opened }
step_fits m HasLeft l p = record { plugs = p.plugs; numbers = p.numbers; opened = p.opened }
step_fits m EndsReset l p = ends_reset m p
step_fits m Fails l p = p
