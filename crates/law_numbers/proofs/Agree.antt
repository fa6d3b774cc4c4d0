-- What the machine has of numbers and of target resets, and what the host has: over the fields that are read.
use Rattle.std.proofs.Common.{◌≡◌, ℕ, zero, suc, ◌+◌, ◌-◌, ◌≤◌, ◌<◌, ◌==◌, ◌&&◌, ◌||◌, not, cond, Bool, true, false, if◌then◌else◌, List, [], ◌∷◌, ◌++◌, length, get_or, set, Option, Some, None, is_some, is_none, refl, ap, sym, ◌∙◌, subst, arith}
use Rattle.std.specs.FinMap as finmap
use Rattle.std.specs.FinSet as finset
use Rattle.std.specs.Ordering.{eq_by_cmp, nat_cmp}
use Rattle.std.proofs.lemmas.Cmp.{nat_cmp_total}
use Rattle.std.proofs.lemmas.Bool.{eqb-true}
use Rattle.smid_pool.specs.Pool.{Slot, Free, Open, slot_of}
use Rattle.mpt_wire.specs.Machine.Causes as calls
use Rattle.mpt_wire.specs.Machine.Calls.{call_of, is_call_answered, is_call_refused, refused_submit, refused_call}
use Rattle.mpt_wire.specs.Machine.SoFar.{SoFar}
use Rattle.mpt_wire.specs.Machine.State.{Machine, MachineDisk, OpenRequest, put_at}
use Rattle.mpt_wire.specs.Machine.Steps.{Fails, GetsReady, Grants, Runs, after_abort_end, after_all, run_at}
use Rattle.mpt_wire.specs.Machine.View.{Seen, given_steps, seen_next, step_if, steps_of}
use Rattle.mpt_wire.specs.Walks.Ahead.{next_own, state_ahead}
use Rattle.mpt_wire.specs.Walks.Passes.{EachEntry}
use Rattle.mpt_trace.specs.declared.entry.Entry.{Entry}
use Rattle.mpt_trace.specs.declared.entry.Entry.TheVariants as entry
use Rattle.mpt_trace.specs.declared.input.Input.{Input}
use Rattle.mpt_trace.specs.declared.input.Input.TheVariants as input
use Rattle.mpt_trace.specs.declared.item.Item.{Item}
use Rattle.mpt_trace.specs.declared.lane.LaneName.{LaneName}
use Rattle.mpt_trace.specs.declared.outcome.Outcome.{Outcome as Ending}
use Rattle.mpt_trace.specs.declared.outcome.AbortOutcome.{AbortOutcome}
use Rattle.mpt_trace.specs.declared.outcome.AbortOutcome.TheVariants as abort
use Rattle.mpt_rules.specs.declared.request.Request.{Request}
use Rattle.mpt_rules.specs.declared.request.Request.TheVariants as request
use Rattle.mpt_rules.specs.Host.Parts.{Cmd, Host}
use Rattle.mpt_rules.specs.World.Counts.{how_many, one_if}
use Rattle.mpt_rules.specs.World.State.{World}
use Rattle.law_facts.specs.Disks.{SameNumber, SameResets}
use Rattle.law_facts.specs.Facts.{Facts}
use Rattle.law_facts.specs.History.{History}
use Rattle.law_facts.specs.Words.{resets_address}
use Rattle.law_machine.proofs.Counted.{one_more}
use Rattle.law_messages.proofs.Keys.{same_key}
use Rattle.law_disks.proofs.Dry.{refuses}
use Rattle.law_disks.proofs.Takes.{take_leaves}
use Rattle.law_disks.specs.Machine.{Numbers, Requests}

abbrev pub Cmds : Type 0
Cmds = finmap.FinMap nat_cmp Cmd

abbrev pub Aborts : Type 0
Aborts = finmap.FinMap nat_cmp ℕ

pub record Num (requests : Requests) (aborts closed : Numbers) (ran : ℕ → Bool) (cmds : Cmds) (named : Aborts) (accepted : Numbers) (n : ℕ) : Type 0 where
  pub opens : is_some (finmap.get requests n) ≡ is_some (finmap.get cmds n)
  pub abort_is : finset.contains aborts n ≡ is_some (finmap.get named n)
  pub over : finset.contains closed n ≡ (finset.contains accepted n && is_none (finmap.get cmds n))
  pub was : is_some (finmap.get cmds n) ≡ true → finset.contains accepted n ≡ true
  pub unused : finset.contains accepted n ≡ false → ran n ≡ false

pub record Agree (requests : Requests) (aborts closed : Numbers) (ran : ℕ → Bool) (resets : ℕ → ℕ) (cmds : Cmds) (named : Aborts) (accepted : Numbers) (pool : List (Slot Request)) : Type 0 where
  pub numbers : (n : ℕ) → Num requests aborts closed ran cmds named accepted n
  pub targets : (a : ℕ) → resets a ≡ how_many (resets_address a) pool

abbrev pub Agrees : Machine → Host → Type 0
Agrees m x = Agree m.requests m.aborts m.closed m.ran m.resets x.cmds x.aborts x.accepted x.pool

pub from_facts : (w : World) (h : History) → Facts w h → Agrees h.machine w.host
from_facts w h f =
    record {
      numbers = λ n. let s = f.disks.numbers n in record { opens = s.requests; abort_is = s.aborts; over = s.closed; was = s.accepted; unused = s.unused };
      targets = λ a. f.disks.resets a;
    }

pub to_number : (w : World) (h : History) (n : ℕ) → Agrees h.machine w.host → SameNumber w h n
to_number w h n g = let s = g.numbers n in record { requests = s.opens; aborts = s.abort_is; closed = s.over; accepted = s.was; unused = s.unused }

pub to_resets : (w : World) (h : History) (a : ℕ) → Agrees h.machine w.host → SameResets w h a
to_resets w h a g = g.targets a

-- ---- pools with as many target resets

pub record Like (x y : Host) : Type 0 where
  pub cmds : y.cmds ≡ x.cmds
  pub aborts : y.aborts ≡ x.aborts
  pub accepted : y.accepted ≡ x.accepted
  pub targets : (a : ℕ) → how_many (resets_address a) y.pool ≡ how_many (resets_address a) x.pool

pub alike : (x y : Host) → y.cmds ≡ x.cmds → y.aborts ≡ x.aborts → y.accepted ≡ x.accepted → y.pool ≡ x.pool → Like x y
alike x y c b a p = record { cmds = c; aborts = b; accepted = a; targets = λ n. ap (how_many (resets_address n)) p }

pub like_then : (x y z : Host) → Like x y → Like y z → Like x z
like_then x y z p q = record { cmds = q.cmds ∙ p.cmds; aborts = q.aborts ∙ p.aborts; accepted = q.accepted ∙ p.accepted; targets = λ a. q.targets a ∙ p.targets a }

pub agrees_like : (m : Machine) (x y : Host) → Like x y → Agrees m x → Agrees m y
agrees_like m x y l g =
    record {
      numbers = λ n.
          subst (λ c. Num m.requests m.aborts m.closed m.ran c y.aborts y.accepted n) (sym l.cmds)
          (subst (λ b. Num m.requests m.aborts m.closed m.ran x.cmds b y.accepted n) (sym l.aborts)
          (subst (λ s. Num m.requests m.aborts m.closed m.ran x.cmds x.aborts s n) (sym l.accepted) (g.numbers n)));
      targets = λ a. g.targets a ∙ sym (l.targets a);
    }

-- a write at a place
module _ (f : Slot Request → Bool) (free : f Free ≡ false) where
  set_count : (xs : List (Slot Request)) (i : ℕ) (y : Slot Request) → i < length xs → how_many f (set xs i y) + one_if (f (get_or xs i Free)) ≡ how_many f xs + one_if (f y)
  set_count [] i y l = absurd (omega (arith, l))
  set_count (x ∷ xs) zero y l = let a = one_more f y xs in let b = one_more f x xs in omega (arith, a, b)
  set_count (x ∷ xs) (suc i) y l = let a = one_more f x (set xs i y) in let b = one_more f x xs in let k = set_count xs i y (omega (arith, l)) in omega (arith, a, b, k)

  set_same : (xs : List (Slot Request)) (i : ℕ) (y : Slot Request) → f (get_or xs i Free) ≡ false → f y ≡ false → how_many f (set xs i y) ≡ how_many f xs
  set_same [] i y e g = refl
  set_same (x ∷ xs) zero y e g = let a = one_more f y xs in let b = one_more f x xs in let c = ap one_if e in let d = ap one_if g in omega (arith, a, b, c, d)
  set_same (x ∷ xs) (suc i) y e g = let a = one_more f x (set xs i y) in let b = one_more f x xs in let k = set_same xs i y e g in omega (arith, a, b, k)

  pub slot_same : (pool : List (Slot Request)) (s : ℕ) (y : Slot Request) → 1 ≤ s → f (slot_of pool s) ≡ false → f y ≡ false → how_many f (set pool (s - 1) y) ≡ how_many f pool
  slot_same pool zero y l e g = absurd (omega (arith, l))
  slot_same pool (suc i) y l e g = let k : suc i - 1 ≡ i = omega arith in subst (λ j. how_many f (set pool j y) ≡ how_many f pool) (sym k) (set_same pool i y e g)

  pub slot_count : (pool : List (Slot Request)) (s : ℕ) (y : Slot Request) → 1 ≤ s → s - 1 < length pool → how_many f (set pool (s - 1) y) + one_if (f (slot_of pool s)) ≡ how_many f pool + one_if (f y)
  slot_count pool zero y l b = absurd (omega (arith, l))
  slot_count pool (suc i) y l b =
      let k : suc i - 1 ≡ i = omega arith in
      subst (λ j. how_many f (set pool j y) + one_if (f (slot_of pool (suc i))) ≡ how_many f pool + one_if (f y)) (sym k) (set_count pool i y (subst (λ j. j < length pool) k b))

set_there : (xs : List (Slot Request)) (i : ℕ) → get_or (set xs i Free) i Free ≡ Free
set_there [] i = refl
set_there (x ∷ xs) zero = refl
set_there (x ∷ xs) (suc i) = set_there xs i

pub freed_there : (pool : List (Slot Request)) (s : ℕ) → 1 ≤ s → slot_of (set pool (s - 1) Free) s ≡ Free
freed_there pool zero l = absurd (omega (arith, l))
freed_there pool (suc i) l = let k : suc i - 1 ≡ i = omega arith in subst (λ j. get_or (set pool j Free) i Free ≡ Free) (sym k) (set_there pool i)

abbrev pub is_target : Request → Bool
is_target (request.TargetReset a) = true
is_target r = false

pub not_reset : (a : ℕ) (r : Request) → is_target r ≡ false → resets_address a (Open r) ≡ false
not_reset a (request.TargetReset b) e = absurd (cc)
not_reset a (request.Command n) e = refl
not_reset a (request.Abort n task) e = refl
not_reset a (request.Leave handle) e = refl
not_reset a (request.Page handle) e = refl
not_reset a (request.Remove handle) e = refl
not_reset a (request.Ack ev context) e = refl
not_reset a request.Notification e = refl
not_reset a request.PortEnable e = refl

-- ---- entries that say nothing of these

abbrev pub IsCalm : Entry → Type 0
IsCalm (entry.Given (input.Abort n)) = ⊥
IsCalm (entry.Given (input.TargetReset a)) = ⊥
IsCalm (entry.Accept n a s) = ⊥
IsCalm (entry.Answer n how) = ⊥
IsCalm (entry.AbortEnd n how) = ⊥
IsCalm (entry.TargetEnd a how) = ⊥
IsCalm entry.ResetDone = ⊥
IsCalm e = Unit {0}

module _ (x : Host) where
  maybe : (m : Machine) (c : calls.Call) (b : Bool) → Agrees m x → Agrees (after_all m (Grants c ∷ [])) x → Agrees (after_all m (if b then [] else Grants c ∷ [])) x
  maybe m c true s g = s
  maybe m c false s g = g

  given : (m : Machine) (i : Input) (ahead : Option Entry) → IsCalm (entry.Given i) → Agrees m x → Agrees (after_all m (given_steps (call_of i) ahead)) x
  given m input.Start ahead d s = maybe m calls.Start (is_call_refused calls.Start ahead) s s
  given m (input.Submit n a form) ahead d s = by_test (is_call_answered n ahead)
    where
      by_test : (b : Bool) → Agrees (after_all m (if b then [] else Fails ∷ [])) x
      by_test true = s
      by_test false = s
  given m (input.Abort n) ahead d s = absurd d
  given m (input.TargetReset a) ahead d s = absurd d
  given m input.Reset ahead d s = maybe m calls.Reset (is_call_refused calls.Reset ahead) s s
  given m input.UnitReset ahead d s = maybe m calls.UnitReset (is_call_refused calls.UnitReset ahead) s s
  given m (input.Plug a e p) ahead d s = maybe m (call_of (input.Plug a e p)) (is_call_refused (call_of (input.Plug a e p)) ahead) s s
  given m (input.Unplug a) ahead d s = maybe m (calls.Unplug a) (is_call_refused (calls.Unplug a) ahead) s s

  ran : (m : Machine) (n a : ℕ) (o : Option OpenRequest) (d : Option MachineDisk) → finmap.get m.requests n ≡ o → Agrees m x → Agrees (run_at m n a o d) x
  ran m n a None d e s = s
  ran m n a (Some r) None e s = s
  ran m n a (Some r) (Some d) e s = record { numbers = each; targets = s.targets }
    where
      each : (k : ℕ) → Num m.requests m.aborts m.closed (put_at n true m.ran) x.cmds x.aborts x.accepted k
      each k = let z = s.numbers k in record { opens = z.opens; abort_is = z.abort_is; over = z.over; was = z.was; unused = λ t. by_key (k == n) refl t }
        where
          by_key : (b : Bool) → (k == n) ≡ b → finset.contains x.accepted k ≡ false → (if b then true else m.ran k) ≡ false
          by_key false g t = (s.numbers k).unused t
          by_key true g t =
              let z = s.numbers k in
              let o : is_some (finmap.get m.requests k) ≡ true = ap (λ j. is_some (finmap.get m.requests j)) (eqb-true k n g) ∙ ap is_some e in
              let y : true ≡ false = sym (z.was (sym z.opens ∙ o)) ∙ t in absurd (cc)

  runs : (m : Machine) (a : ℕ) (o : Option ℕ) → Agrees m x → Agrees (after_all m (step_if o (λ n. Runs n a) ∷ [])) x
  runs m a None s = s
  runs m a (Some n) s = ran m n a (finmap.get m.requests n) (m.disks a) refl s

  readied : (m : Machine) (a : ℕ) (o : Option ℕ) → Agrees m x → Agrees (after_all m (step_if o (λ k. GetsReady a k) ∷ [])) x
  readied m a None s = s
  readied m a (Some k) s = s

  pub taken : (m : Machine) (g : SoFar) (l : LaneName) (i : Item) (ahead : Option Entry) → Agrees m x → Agrees (after_all m (steps_of g (entry.Take l i) ahead)) x
  taken m g l i ahead s = let t = take_leaves m g l i ahead in subst (λ o. Agrees o x) (sym t.1) s

  calm_entry : (m : Machine) (g : SoFar) (e : Entry) (ahead : Option Entry) → IsCalm e → Agrees m x → Agrees (after_all m (steps_of g e ahead)) x
  calm_entry m g (entry.Given i) ahead d s = given m i ahead d s
  calm_entry m g (entry.Take l i) ahead d s = taken m g l i ahead s
  calm_entry m g (entry.Run a q) ahead d s = runs m a (g.number_of q) s
  calm_entry m g (entry.RefuseSubmit n c) ahead d s = subst (λ o. Agrees o x) (sym (refuses m (refused_submit g.host_call n) c)) s
  calm_entry m g (entry.Refuse call c) ahead d s = subst (λ o. Agrees o x) (sym (refuses m (refused_call g.fabric_call call) c)) s
  calm_entry m g (entry.Ready a h) ahead d s = readied m a (g.plug_of h) s
  calm_entry m g (entry.Accept n a q) ahead d s = absurd d
  calm_entry m g (entry.Answer n how) ahead d s = absurd d
  calm_entry m g (entry.AbortEnd n how) ahead d s = absurd d
  calm_entry m g (entry.TargetEnd a how) ahead d s = absurd d
  calm_entry m g entry.ResetDone ahead d s = absurd d
  calm_entry m g entry.HostUp ahead d s = s
  calm_entry m g (entry.Lost a h) ahead d s = s
  calm_entry m g (entry.Idle c) ahead d s = s
  calm_entry m g (entry.Put l i) ahead d s = s
  calm_entry m g (entry.Bind h a k) ahead d s = s
  calm_entry m g (entry.Unbind h) ahead d s = s
  calm_entry m g entry.UnbindAll ahead d s = s

  pub calm_all : (g : Seen) (t : List Entry) → EachEntry IsCalm t → Agrees g.machine x → Agrees (state_ahead seen_next g t []).machine x
  calm_all g [] d s = s
  calm_all g (e ∷ t) d s = calm_all (seen_next g e (next_own e (t ++ []))) t d.1 (calm_entry g.machine g.so_far e (next_own e (t ++ [])) d.0 s)

-- ---- answers

set_removed : (s : Numbers) (n k : ℕ) → finset.contains (finset.remove s n) k ≡ (not (k == n) && finset.contains s k)
set_removed s n k = finset.contains-remove nat_cmp_total s n k ∙ ap (λ b. not b && finset.contains s k) (same_key k n)

set_inserted : (s : Numbers) (n k : ℕ) → finset.contains (finset.insert s n) k ≡ ((k == n) || finset.contains s k)
set_inserted s n k = finset.contains-insert nat_cmp_total s n k ∙ ap (λ b. b || finset.contains s k) (same_key k n)

map_removed : {X : Type 0} (m : finmap.FinMap nat_cmp X) (n k : ℕ) → is_some (finmap.get (finmap.remove m n) k) ≡ (not (k == n) && is_some (finmap.get m k))
map_removed m n k = ap is_some (finmap.get-remove nat_cmp_total m n k) ∙ (by_key (eq_by_cmp nat_cmp k n) (finmap.get m k) ∙ ap (λ b. not b && is_some (finmap.get m k)) (same_key k n))
  where
    by_key : {X : Type 0} (b : Bool) (o : Option X) → is_some (cond b None o) ≡ (not b && is_some o)
    by_key true o = refl
    by_key false o = refl

none_is : {X : Type 0} (o : Option X) → is_none o ≡ not (is_some o)
none_is None = refl
none_is (Some x) = refl

-- a command is answered; y is what its slot becomes
pub answered : (m : Machine) (x : Host) (n : ℕ) (how : Ending) (pool : List (Slot Request)) → is_some (finmap.get x.cmds n) ≡ true → ((a : ℕ) → how_many (resets_address a) pool ≡ how_many (resets_address a) x.pool) → Agrees m x
    → Agree (finmap.remove m.requests n) m.aborts (finset.insert m.closed n) m.ran m.resets (finmap.remove x.cmds n) x.aborts x.accepted pool
answered m x n how pool there p s = record { numbers = each; targets = λ a. s.targets a ∙ sym (p a) }
  where
    each : (k : ℕ) → Num (finmap.remove m.requests n) m.aborts (finset.insert m.closed n) m.ran (finmap.remove x.cmds n) x.aborts x.accepted k
    each k =
        let z = s.numbers k in
        record {
          opens = map_removed m.requests n k ∙ (ap (λ b. not (k == n) && b) z.opens ∙ sym (map_removed x.cmds n k));
          abort_is = z.abort_is;
          over = set_inserted m.closed n k ∙ (by_key (k == n) refl ∙ sym (ap (λ b. finset.contains x.accepted k && b) (none_is (finmap.get (finmap.remove x.cmds n) k) ∙ ap not (map_removed x.cmds n k))));
          was = λ t. z.was (less (k == n) (is_some (finmap.get x.cmds k)) (sym (map_removed x.cmds n k) ∙ t));
          unused = z.unused;
        }
      where
        less : (b c : Bool) → (not b && c) ≡ true → c ≡ true
        less true c e = absurd (cc)
        less false c e = e

        by_key : (b : Bool) → (k == n) ≡ b → (b || finset.contains m.closed k) ≡ (finset.contains x.accepted k && not (not b && is_some (finmap.get x.cmds k)))
        by_key true t =
            let y : is_some (finmap.get x.cmds k) ≡ true = ap (λ j. is_some (finmap.get x.cmds j)) (eqb-true k n t) ∙ there in
            sym (ap (λ b. b && true) ((s.numbers k).was y))
        by_key false t = (s.numbers k).over ∙ ap (λ b. finset.contains x.accepted k && b) (none_is (finmap.get x.cmds k))

-- an abort is over
pub abort_over : (m : Machine) (x : Host) (n : ℕ) (pool : List (Slot Request)) → ((a : ℕ) → how_many (resets_address a) pool ≡ how_many (resets_address a) x.pool) → Agrees m x
    → Agree m.requests (finset.remove m.aborts n) m.closed m.ran m.resets x.cmds (finmap.remove x.aborts n) x.accepted pool
abort_over m x n pool p s = record { numbers = each; targets = λ a. s.targets a ∙ sym (p a) }
  where
    each : (k : ℕ) → Num m.requests (finset.remove m.aborts n) m.closed m.ran x.cmds (finmap.remove x.aborts n) x.accepted k
    each k = let z = s.numbers k in record { opens = z.opens; abort_is = set_removed m.aborts n k ∙ (ap (λ b. not (k == n) && b) z.abort_is ∙ sym (map_removed x.aborts n k)); over = z.over; was = z.was; unused = z.unused }

pub abort_told : (m : Machine) (n : ℕ) (how : AbortOutcome) (x : Host) → Agree m.requests (finset.remove m.aborts n) m.closed m.ran m.resets x.cmds x.aborts x.accepted x.pool → Agrees (after_abort_end m n how) x
abort_told m n abort.Stopped x s = s
abort_told m n abort.NotFound x s = s
abort_told m n abort.Reset x s = s

-- a target reset is over, or asked
pub target_over : (m : Machine) (x : Host) (b : ℕ) (pool : List (Slot Request)) → ((a : ℕ) → how_many (resets_address a) pool + one_if (b == a) ≡ how_many (resets_address a) x.pool) → Agrees m x
    → Agree m.requests m.aborts m.closed m.ran (put_at b (m.resets b - 1) m.resets) x.cmds x.aborts x.accepted pool
target_over m x b pool p s = record { numbers = s.numbers; targets = each }
  where
    each : (a : ℕ) → put_at b (m.resets b - 1) m.resets a ≡ how_many (resets_address a) pool
    each a = by_key (a == b) refl
      where
        by_key : (t : Bool) → (a == b) ≡ t → (if t then m.resets b - 1 else m.resets a) ≡ how_many (resets_address a) pool
        by_key true t =
            let e : a ≡ b = eqb-true a b t in
            let y : (b == b) ≡ true = grind arith in
            let u = ap one_if y in let q = p b in let z = s.targets b in
            subst (λ j. m.resets b - 1 ≡ how_many (resets_address j) pool) (sym e) (omega (arith, u, q, z))
        by_key false t =
            let y : (b == a) ≡ false = grind (arith, t) in
            let u = ap one_if y in let q = p a in let z = s.targets a in omega (arith, u, q, z)

pub target_asked : (m : Machine) (x : Host) (b : ℕ) (pool : List (Slot Request)) → ((a : ℕ) → how_many (resets_address a) pool ≡ how_many (resets_address a) x.pool + one_if (b == a)) → Agrees m x
    → Agree m.requests m.aborts m.closed m.ran (put_at b (m.resets b + 1) m.resets) x.cmds x.aborts x.accepted pool
target_asked m x b pool p s = record { numbers = s.numbers; targets = each }
  where
    each : (a : ℕ) → put_at b (m.resets b + 1) m.resets a ≡ how_many (resets_address a) pool
    each a = by_key (a == b) refl
      where
        by_key : (t : Bool) → (a == b) ≡ t → (if t then m.resets b + 1 else m.resets a) ≡ how_many (resets_address a) pool
        by_key true t =
            let e : a ≡ b = eqb-true a b t in
            let y : (b == b) ≡ true = grind arith in
            let u = ap one_if y in let q = p b in let z = s.targets b in
            subst (λ j. m.resets b + 1 ≡ how_many (resets_address j) pool) (sym e) (omega (arith, u, q, z))
        by_key false t =
            let y : (b == a) ≡ false = grind (arith, t) in
            let u = ap one_if y in let q = p a in let z = s.targets a in omega (arith, u, q, z)
