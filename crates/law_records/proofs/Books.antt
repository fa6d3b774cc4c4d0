-- The host's tables agree: what is open under an identifier, the open submissions by number, and the open aborts by the number that they name.
use Rattle.std.proofs.Common.{◌≡◌, ◌≢◌, ℕ, zero, suc, ◌+◌, ◌-◌, ◌<◌, ◌≤◌, ◌==◌, ◌||◌, Bool, true, false, cond, List, [], ◌∷◌, length, replicate, set, get_or, Option, Some, None, is_some, option_map, refl, ap, sym, ◌∙◌, subst, arith, length-set}
use Rattle.std.specs.FinMap as finmap
use Rattle.std.specs.FinSet as finset
use Rattle.std.specs.Ordering.{eq_by_cmp, nat_cmp}
use Rattle.std.proofs.lemmas.Bool.{eqb-true}
use Rattle.std.proofs.lemmas.Bool.Decides.{nat_tests}
use Rattle.std.proofs.lemmas.Cmp.{nat_cmp_total}
use Rattle.smid_pool.specs.Class.{IsIn}
use Rattle.smid_pool.specs.Pool.{Free, Open, Parked, Slot, least_free, slot_of}
use Rattle.smid_pool.specs.declared.class.Class.{Class}
use Rattle.smid_pool.specs.declared.class.Class.TheVariants as class
use Rattle.mpt_rules.specs.declared.request.Request.{Request}
use Rattle.mpt_rules.specs.declared.request.Request.TheVariants as request
use Rattle.mpt_rules.specs.Host.Parts.{Cmd, Host}
use Rattle.mpt_rules.specs.Host.Replies.{slot_after}
use Rattle.mpt_rules.specs.World.Counts.{how_many, one_if}
use Rattle.law_facts.specs.Words.{names_task}
use Rattle.law_flights.proofs.HostHolds.{class_within, in_table, slot_of-set}
use Rattle.law_flights.proofs.HostTurns.{all_free_at, length_free}
use Rattle.law_flights.proofs.KnownOnce.{count_set}
use Rattle.law_flights.proofs.Least.{least_is}
use Rattle.law_lights.proofs.Ones.{none_of, one_of, some_of}
use Rattle.law_moves.proofs.Counted.{how_many-cons, how_many-nil}

-- ---- maps and sets by number

get_removed : {X : Type 0} (m : finmap.FinMap nat_cmp X) (k n : ℕ) → finmap.get (finmap.remove m k) n ≡ cond (k == n) None (finmap.get m n)
get_removed m k n =
    let same : eq_by_cmp nat_cmp n k ≡ (k == n) = grind arith in
    finmap.get-remove nat_cmp_total m k n ∙ ap (λ (b : Bool). cond b None (finmap.get m n)) same

get_inserted : {X : Type 0} (m : finmap.FinMap nat_cmp X) (k : ℕ) (v : X) (n : ℕ) → finmap.get (finmap.insert m k v) n ≡ cond (k == n) (Some v) (finmap.get m n)
get_inserted m k v n =
    let same : eq_by_cmp nat_cmp n k ≡ (k == n) = grind arith in
    finmap.get-insert nat_cmp_total m k v n ∙ ap (λ (b : Bool). cond b (Some v) (finmap.get m n)) same

contains_inserted : (m : finset.FinSet nat_cmp) (k n : ℕ) → finset.contains (finset.insert m k) n ≡ ((k == n) || finset.contains m n)
contains_inserted m k n =
    let same : eq_by_cmp nat_cmp n k ≡ (k == n) = grind arith in
    finset.contains-insert nat_cmp_total m k n ∙ ap (λ (b : Bool). b || finset.contains m n) same

clash : {X : Type 0} (b : Bool) → b ≡ true → b ≡ false → X
clash true x y = absurd (cc)
clash false x y = absurd (cc)

-- the same number
same_is : (n : ℕ) → (n == n) ≡ true
same_is n = grind arith

differ : (m n : ℕ) → (m == n) ≡ false → m ≡ n → ⊥
differ m n e s = clash (m == n) (grind (arith, nat_tests, s)) e

above_zero : (i : ℕ) → (suc i == 0) ≡ false
above_zero i = grind (arith, nat_tests)

-- ---- words

abbrev pub free_slot : Slot Request
free_slot = Free

abbrev parked_slot : Slot Request
parked_slot = Parked

abbrev pub Cmds : Type 0
Cmds = finmap.FinMap nat_cmp Cmd

abbrev pub Aborts : Type 0
Aborts = finmap.FinMap nat_cmp ℕ

abbrev pub Numbers : Type 0
Numbers = finset.FinSet nat_cmp

-- neither a submission's, nor an abort's, nor parked
abbrev pub IsPlain : Slot Request → Type 0
IsPlain (Open (request.Command n)) = ⊥
IsPlain (Open (request.Abort n task)) = ⊥
IsPlain Parked = ⊥
IsPlain _ = Unit {0}

-- an abort of the number
abbrev pub aborts_it : ℕ → Slot Request → Bool
aborts_it n (Open (request.Abort m task)) = m == n
aborts_it n _ = false

abbrev pub task_in : Slot Request → ℕ
task_in (Open (request.Abort m task)) = task
task_in _ = 0

abbrev pub number_in : Slot Request → ℕ
number_in (Open (request.Command n)) = n
number_in (Open (request.Abort n task)) = n
number_in _ = 0

-- what an abort names is open, or parked
abbrev pub Named : List (Slot Request) → ℕ → Option Cmd → Type 0
Named pool task (Some c) = c.smid ≡ task
Named pool task None = slot_of pool task ≡ Parked

plain_names : (t : ℕ) (x : Slot Request) → IsPlain x → names_task t x ≡ false
plain_names t Free p = refl
plain_names t Parked p = absurd p
plain_names t (Open (request.Command n)) p = refl
plain_names t (Open (request.Abort n task)) p = absurd p
plain_names t (Open (request.TargetReset address)) p = refl
plain_names t (Open (request.Leave handle)) p = refl
plain_names t (Open (request.Page handle)) p = refl
plain_names t (Open (request.Remove handle)) p = refl
plain_names t (Open (request.Ack event context)) p = refl
plain_names t (Open request.Notification) p = refl
plain_names t (Open request.PortEnable) p = refl

plain_aborts : (n : ℕ) (x : Slot Request) → IsPlain x → aborts_it n x ≡ false
plain_aborts n Free p = refl
plain_aborts n Parked p = absurd p
plain_aborts n (Open (request.Command m)) p = refl
plain_aborts n (Open (request.Abort m task)) p = absurd p
plain_aborts n (Open (request.TargetReset address)) p = refl
plain_aborts n (Open (request.Leave handle)) p = refl
plain_aborts n (Open (request.Page handle)) p = refl
plain_aborts n (Open (request.Remove handle)) p = refl
plain_aborts n (Open (request.Ack event context)) p = refl
plain_aborts n (Open request.Notification) p = refl
plain_aborts n (Open request.PortEnable) p = refl

-- ---- what stands; the abort under the spare identifier is just being ended

pub record Books (spare : ℕ) (pool : List (Slot Request)) (cmds : Cmds) (aborts : Aborts) (accepted : Numbers) : Type 0 where
  pub table : length pool ≡ 280
  pub commands : (x n : ℕ) → slot_of pool x ≡ Open (request.Command n) → IsIn class.ScsiIo x × (option_map (λ (c : Cmd). c.smid) (finmap.get cmds n) ≡ Some x)
  pub opened : (n : ℕ) (c : Cmd) → finmap.get cmds n ≡ Some c → slot_of pool c.smid ≡ Open (request.Command n)
  pub aborted : (x n task : ℕ) → (x == spare) ≡ false → slot_of pool x ≡ Open (request.Abort n task) → finmap.get aborts n ≡ Some x
  pub aborting : (n x : ℕ) → finmap.get aborts n ≡ Some x → aborts_it n (slot_of pool x) ≡ true
  pub names : (x n task : ℕ) → (x == spare) ≡ false → slot_of pool x ≡ Open (request.Abort n task) → Named pool task (finmap.get cmds n)
  pub parked : (t : ℕ) → slot_of pool t ≡ Parked → IsIn class.ScsiIo t × (how_many (names_task t) pool ≡ 1)
  pub known : (n : ℕ) → is_some (finmap.get cmds n) ≡ true → finset.contains accepted n ≡ true
  pub abort_known : (n : ℕ) → is_some (finmap.get aborts n) ≡ true → finset.contains accepted n ≡ true

abbrev pub Keeps : ℕ → Host → Type 0
Keeps spare host = Books spare host.pool host.cmds host.aborts host.accepted

-- ---- the place of an identifier

place : (pool : List (Slot Request)) (s : ℕ) → 1 ≤ s → get_or pool (s - 1) Free ≡ slot_of pool s
place pool zero l = absurd (omega (arith, l))
place pool (suc i) l = let e : suc i - 1 ≡ i = omega arith in ap (λ k. get_or pool k Free) e

-- an open or parked identifier stands in the table
inside : (pool : List (Slot Request)) (s : ℕ) (x : Slot Request) → slot_of pool s ≡ x → x ≢ Free → (1 ≤ s) × (s - 1 < length pool)
inside pool s x e f = in_table pool s x e f

-- how often something is named after a write
counted : (t : ℕ) (pool : List (Slot Request)) (x : ℕ) (y : Slot Request) → 1 ≤ x → x - 1 < length pool → how_many (names_task t) (set pool (x - 1) y) + one_if (names_task t (slot_of pool x)) ≡ how_many (names_task t) pool + one_if (names_task t y)
counted t pool x y l i = subst (λ o. how_many (names_task t) (set pool (x - 1) y) + one_if (names_task t o) ≡ how_many (names_task t) pool + one_if (names_task t y)) (place pool x l) (count_set (names_task t) pool (x - 1) y Free i)

-- a slot that names it is counted
some_names : (t : ℕ) (pool : List (Slot Request)) (x n : ℕ) → slot_of pool x ≡ Open (request.Abort n t) → 1 ≤ how_many (names_task t) pool
some_names t pool x n e =
    let p = inside pool x (Open (request.Abort n t)) e (λ z. absurd (cc)) in
    some_of (names_task t) Free pool (x - 1) p.1 (ap (names_task t) (place pool x p.0 ∙ e) ∙ same_is t)

-- two that name it are one where it is named once
one_names : (t : ℕ) (pool : List (Slot Request)) (x y n m : ℕ) → slot_of pool x ≡ Open (request.Abort n t) → slot_of pool y ≡ Open (request.Abort m t) → how_many (names_task t) pool ≤ 1 → x ≡ y
one_names t pool x y n m e f l =
    let p = inside pool x (Open (request.Abort n t)) e (λ z. absurd (cc)) in
    let q = inside pool y (Open (request.Abort m t)) f (λ z. absurd (cc)) in
    let g = one_of (names_task t) Free pool (x - 1) (y - 1) p.1 q.1 (ap (names_task t) (place pool x p.0 ∙ e) ∙ same_is t) (ap (names_task t) (place pool y q.0 ∙ f) ∙ same_is t) l in
    let a = p.0 in let b = q.0 in
    omega (arith, g, a, b)

-- one that passes at most, where any two are the same
at_most_one : {X : Type 0} (p : X → Bool) (d : X) (xs : List X) → ((i j : ℕ) → p (get_or xs i d) ≡ true → p (get_or xs j d) ≡ true → i ≡ j) → how_many p xs ≤ 1
at_most_one p d [] f = let n = how_many-nil p in omega (arith, n)
at_most_one p d (x ∷ xs) f = by_test (p x) refl (at_most_one p d xs (λ i j a b. less i j (f (suc i) (suc j) a b)))
  where
    less : (i j : ℕ) → suc i ≡ suc j → i ≡ j
    less i j e = omega (arith, e)

    rest_none : p x ≡ true → (i : ℕ) → p (get_or xs i d) ≡ false
    rest_none t i = by_bool (p (get_or xs i d)) refl
      where
        by_bool : (b : Bool) → p (get_or xs i d) ≡ b → b ≡ false
        by_bool true e = let z : 0 ≡ suc i = f 0 (suc i) t e in absurd (omega (arith, z))
        by_bool false e = refl

    by_test : (b : Bool) → p x ≡ b → how_many p xs ≤ 1 → how_many p (x ∷ xs) ≤ 1
    by_test true t r = let c = how_many-cons p x xs in let o = ap one_if t in let z = none_of p d xs (λ i l. rest_none t i) in omega (arith, c, o, z)
    by_test false t r = let c = how_many-cons p x xs in let o = ap one_if t in omega (arith, c, o, r)

-- what names it is an abort of it
pub named_by : (t : ℕ) (o : Slot Request) → names_task t o ≡ true → o ≡ Open (request.Abort (number_in o) t)
named_by t Free e = absurd (cc)
named_by t Parked e = absurd (cc)
named_by t (Open (request.Command n)) e = absurd (cc)
named_by t (Open (request.Abort n task)) e = ap (λ k. Open (request.Abort n k)) (eqb-true task t e)
named_by t (Open (request.TargetReset address)) e = absurd (cc)
named_by t (Open (request.Leave handle)) e = absurd (cc)
named_by t (Open (request.Page handle)) e = absurd (cc)
named_by t (Open (request.Remove handle)) e = absurd (cc)
named_by t (Open (request.Ack event context)) e = absurd (cc)
named_by t (Open request.Notification) e = absurd (cc)
named_by t (Open request.PortEnable) e = absurd (cc)

-- an abort of the number
abort_slot : (n : ℕ) (o : Slot Request) → aborts_it n o ≡ true → o ≡ Open (request.Abort n (task_in o))
abort_slot n Free e = absurd (cc)
abort_slot n Parked e = absurd (cc)
abort_slot n (Open (request.Command m)) e = absurd (cc)
abort_slot n (Open (request.Abort m task)) e = ap (λ k. Open (request.Abort k task)) (eqb-true m n e)
abort_slot n (Open (request.TargetReset address)) e = absurd (cc)
abort_slot n (Open (request.Leave handle)) e = absurd (cc)
abort_slot n (Open (request.Page handle)) e = absurd (cc)
abort_slot n (Open (request.Remove handle)) e = absurd (cc)
abort_slot n (Open (request.Ack event context)) e = absurd (cc)
abort_slot n (Open request.Notification) e = absurd (cc)
abort_slot n (Open request.PortEnable) e = absurd (cc)

-- ---- a plain write

module _ (cmds : Cmds) (aborts : Aborts) (accepted : Numbers) where
  abbrev Has : ℕ → List (Slot Request) → Type 0
  Has spare pool = Books spare pool cmds aborts accepted

  not_zero : (pool : List (Slot Request)) (x : ℕ) (r : Request) → slot_of pool x ≡ Open r → (x == 0) ≡ false
  not_zero pool zero r e = absurd (cc)
  not_zero pool (suc i) r e = grind (arith, nat_tests)

  pub hole : (x : ℕ) (pool : List (Slot Request)) → Has 0 pool → Has x pool
  hole x pool h =
      record {
        table = h.table;
        commands = h.commands;
        opened = h.opened;
        aborted = λ z n task k e. h.aborted z n task (not_zero pool z (request.Abort n task) e) e;
        aborting = h.aborting;
        names = λ z n task k e. h.names z n task (not_zero pool z (request.Abort n task) e) e;
        parked = h.parked;
        known = h.known;
        abort_known = h.abort_known;
      }

  -- an identifier that may be written: nothing else says what is under it
  pub record IsBeside (pool : List (Slot Request)) (x : ℕ) : Type 0 where
    pub least : 1 ≤ x
    pub most : x - 1 < length pool
    pub no_command : (n : ℕ) → slot_of pool x ≡ Open (request.Command n) → ⊥
    pub not_parked : slot_of pool x ≡ Parked → ⊥
    pub no_abort : (n : ℕ) → finmap.get aborts n ≡ Some x → ⊥
    pub unnamed : (t : ℕ) → slot_of pool t ≡ Parked → names_task t (slot_of pool x) ≡ false

  pub puts : (pool : List (Slot Request)) (x : ℕ) (y : Slot Request) → IsPlain y → IsBeside pool x → Has x pool → Has 0 (set pool (x - 1) y)
  puts pool x y plain b h =
      record {
        table = length-set pool (x - 1) y ∙ h.table;
        commands = λ z n e. h.commands z n (was z (request.Command n) (λ q. subst IsPlain q plain) e).1;
        opened = λ n c e. open_one n c (c.smid == x) refl (h.opened n c e);
        aborted = λ z n task k e. let q = was z (request.Abort n task) (λ q. subst IsPlain q plain) e in h.aborted z n task q.0 q.1;
        aborting = λ n z e. ap (aborts_it n) (elsewhere z (λ s. b.no_abort n (e ∙ ap Some s))) ∙ h.aborting n z e;
        names = λ z n task k e. let q = was z (request.Abort n task) (λ q. subst IsPlain q plain) e in stays n task (finmap.get cmds n) (h.names z n task q.0 q.1);
        parked = λ t e. still t e (t == x) refl;
        known = h.known;
        abort_known = h.abort_known;
      }
    where
      at : (j : ℕ) → slot_of (set pool (x - 1) y) j ≡ cond (j == x) y (slot_of pool j)
      at j = slot_of-set pool x j y b.least b.most

      at_by : (j : ℕ) (k : Bool) → (j == x) ≡ k → slot_of (set pool (x - 1) y) j ≡ cond k y (slot_of pool j)
      at_by j k e = at j ∙ ap (λ (c : Bool). cond c y (slot_of pool j)) e

      elsewhere : (j : ℕ) → (j ≡ x → ⊥) → slot_of (set pool (x - 1) y) j ≡ slot_of pool j
      elsewhere j n = by_key (j == x) refl
        where
          by_key : (k : Bool) → (j == x) ≡ k → slot_of (set pool (x - 1) y) j ≡ slot_of pool j
          by_key true e = absurd (n (eqb-true j x e))
          by_key false e = at_by j false e

      -- what is open now was so
      was : (z : ℕ) (r : Request) → (y ≡ Open r → ⊥) → slot_of (set pool (x - 1) y) z ≡ Open r → ((z == x) ≡ false) × (slot_of pool z ≡ Open r)
      was z r n e = by_key (z == x) refl
        where
          by_key : (k : Bool) → (z == x) ≡ k → ((z == x) ≡ false) × (slot_of pool z ≡ Open r)
          by_key true k = absurd (n (sym (at_by z true k) ∙ e))
          by_key false k = (k, sym (at_by z false k) ∙ e)

      open_one : (n : ℕ) (c : Cmd) (k : Bool) → (c.smid == x) ≡ k → slot_of pool c.smid ≡ Open (request.Command n) → slot_of (set pool (x - 1) y) c.smid ≡ Open (request.Command n)
      open_one n c true k e = absurd (b.no_command n (sym (ap (slot_of pool) (eqb-true c.smid x k)) ∙ e))
      open_one n c false k e = at_by c.smid false k ∙ e

      stays : (n task : ℕ) (o : Option Cmd) → Named pool task o → Named (set pool (x - 1) y) task o
      stays n task (Some c) e = e
      stays n task None e = elsewhere task (λ s. b.not_parked (sym (ap (slot_of pool) s) ∙ e)) ∙ e

      still : (t : ℕ) → slot_of (set pool (x - 1) y) t ≡ Parked → (k : Bool) → (t == x) ≡ k → IsIn class.ScsiIo t × (how_many (names_task t) (set pool (x - 1) y) ≡ 1)
      still t e true k = absurd (subst IsPlain (sym (at_by t true k) ∙ e) plain)
      still t e false k =
          let old : slot_of pool t ≡ Parked = sym (at_by t false k) ∙ e in
          let p = h.parked t old in
          let c = counted t pool x y b.least b.most in
          let u = ap one_if (b.unnamed t old) in
          let v = ap one_if (plain_names t y plain) in
          let w = p.1 in
          (p.0, omega (arith, c, u, v, w))

  -- a plain slot is beside
  pub beside : (pool : List (Slot Request)) (x : ℕ) (o : Slot Request) → 1 ≤ x → x - 1 < length pool → slot_of pool x ≡ o → IsPlain o → (spare : ℕ) → Has spare pool → IsBeside pool x
  beside pool x o l i e p spare h =
      record {
        least = l;
        most = i;
        no_command = λ n f. subst IsPlain (sym e ∙ f) p;
        not_parked = λ f. subst IsPlain (sym e ∙ f) p;
        no_abort = λ n f. clash (aborts_it n (slot_of pool x)) (h.aborting n x f) (ap (aborts_it n) e ∙ plain_aborts n o p);
        unnamed = λ t f. ap (names_task t) e ∙ plain_names t o p;
      }

  pub beside_open : (pool : List (Slot Request)) (x : ℕ) (r : Request) → slot_of pool x ≡ Open r → IsPlain (Open r) → Has 0 pool → IsBeside pool x
  beside_open pool x r e p h = let q = inside pool x (Open r) e (λ z. absurd (cc)) in beside pool x (Open r) q.0 q.1 e p 0 h

  pub beside_least : (c : Class) (pool : List (Slot Request)) (x : ℕ) → least_free c pool ≡ Some x → Has 0 pool → IsBeside pool x
  beside_least c pool x e h =
      let l = least_is c pool x e in
      let i = class_within c x l.inside in
      let t = h.table in let a = i.0 in let b = i.1 in
      beside pool x Free a (omega (arith, t, a, b)) l.free tt 0 h

  -- what is written plainly is beside again
  pub beside_again : (pool : List (Slot Request)) (x : ℕ) (y : Slot Request) → IsPlain y → 1 ≤ x → x - 1 < length pool → Has 0 (set pool (x - 1) y) → IsBeside (set pool (x - 1) y) x
  beside_again pool x y p l i h =
      let e = slot_of-set pool x x y l i ∙ ap (λ (c : Bool). cond c y (slot_of pool x)) (same_is x) in
      beside (set pool (x - 1) y) x y l (subst (λ n. x - 1 < n) (sym (length-set pool (x - 1) y)) i) e p 0 h

  -- written twice
  pub puts_twice : (pool : List (Slot Request)) (x : ℕ) (y z : Slot Request) → IsPlain y → IsPlain z → IsBeside pool x → Has x pool → Has 0 (set (set pool (x - 1) y) (x - 1) z)
  puts_twice pool x y z p q b h =
      let one = puts pool x y p b h in
      puts (set pool (x - 1) y) x z q (beside_again pool x y p b.least b.most one) (hole x (set pool (x - 1) y) one)

-- ---- a submission is answered

module _ (pool : List (Slot Request)) (cmds : Cmds) (aborts : Aborts) (accepted : Numbers) (x n : ℕ) (e : slot_of pool x ≡ Open (request.Command n)) (h : Books 0 pool cmds aborts accepted) where
  abbrev after : Slot Request
  after = slot_after (finmap.get aborts n)

  at_answer : (j : ℕ) (k : Bool) → (j == x) ≡ k → slot_of (set pool (x - 1) after) j ≡ cond k after (slot_of pool j)
  at_answer j k f = let p = inside pool x (Open (request.Command n)) e (λ z. absurd (cc)) in slot_of-set pool x j after p.0 p.1 ∙ ap (λ (c : Bool). cond c after (slot_of pool j)) f

  not_open : (o : Option ℕ) (r : Request) → slot_after o ≡ Open r → ⊥
  not_open None r f = cc
  not_open (Some a) r f = cc

  after_names : (t : ℕ) (o : Option ℕ) → names_task t (slot_after o) ≡ false
  after_names t None = refl
  after_names t (Some a) = refl

  -- the submission's record
  under : (z m : ℕ) (o : Option Cmd) → option_map (λ (c : Cmd). c.smid) o ≡ Some z → option_map (λ (c : Cmd). c.smid) o ≡ Some x → z ≡ x
  under z m o f g = let q : Some z ≡ Some x = sym f ∙ g in cc

  was_open : (z : ℕ) (r : Request) → slot_of (set pool (x - 1) after) z ≡ Open r → ((z == x) ≡ false) × (slot_of pool z ≡ Open r)
  was_open z r f = by_key (z == x) refl
    where
      by_key : (k : Bool) → (z == x) ≡ k → ((z == x) ≡ false) × (slot_of pool z ≡ Open r)
      by_key true k = absurd (not_open (finmap.get aborts n) r (sym (at_answer z true k) ∙ f))
      by_key false k = (k, sym (at_answer z false k) ∙ f)

  -- an open abort of the number names the identifier
  its_task : (z task : ℕ) → slot_of pool z ≡ Open (request.Abort n task) → task ≡ x
  its_task z task f = by_cmd (finmap.get cmds n) (h.commands x n e).1 (h.names z n task (zero_not z f) f)
    where
      zero_not : (z : ℕ) → slot_of pool z ≡ Open (request.Abort n task) → (z == 0) ≡ false
      zero_not zero f = absurd (cc)
      zero_not (suc i) f = grind (arith, nat_tests)

      by_cmd : (o : Option Cmd) → option_map (λ (c : Cmd). c.smid) o ≡ Some x → Named pool task o → task ≡ x
      by_cmd None g i = absurd (cc)
      by_cmd (Some c) g i = let q : c.smid ≡ x = cc in sym i ∙ q

  -- one that names the identifier is of the number
  of_number : (z m : ℕ) → slot_of pool z ≡ Open (request.Abort m x) → m ≡ n
  of_number z m f = by_cmd (finmap.get cmds m) refl (h.names z m x (zero_not z f) f)
    where
      zero_not : (z : ℕ) → slot_of pool z ≡ Open (request.Abort m x) → (z == 0) ≡ false
      zero_not zero f = absurd (cc)
      zero_not (suc i) f = grind (arith, nat_tests)

      by_cmd : (o : Option Cmd) → finmap.get cmds m ≡ o → Named pool x o → m ≡ n
      by_cmd None g i = let q : Open (request.Command n) ≡ Parked = sym e ∙ i in absurd (cc)
      by_cmd (Some c) g i = let q : slot_of pool x ≡ Open (request.Command m) = sym (ap (slot_of pool) i) ∙ h.opened m c g in ap number_in (sym q ∙ e)

  -- so it is named at most once
  pub named_once : how_many (names_task x) pool ≤ 1
  named_once = at_most_one (names_task x) Free pool one
    where
      one : (i j : ℕ) → names_task x (get_or pool i Free) ≡ true → names_task x (get_or pool j Free) ≡ true → i ≡ j
      one i j f g =
          let a : slot_of pool (suc i) ≡ Open (request.Abort (number_in (get_or pool i Free)) x) = named_by x (get_or pool i Free) f in
          let b : slot_of pool (suc j) ≡ Open (request.Abort (number_in (get_or pool j Free)) x) = named_by x (get_or pool j Free) g in
          let p = subst (λ m. slot_of pool (suc i) ≡ Open (request.Abort m x)) (of_number (suc i) _ a) a in
          let q = subst (λ m. slot_of pool (suc j) ≡ Open (request.Abort m x)) (of_number (suc j) _ b) b in
          let u = h.aborted (suc i) n x (above_zero i) p in
          let v = h.aborted (suc j) n x (above_zero j) q in
          let z : Some (suc i) ≡ Some (suc j) = sym u ∙ v in
          cc

  -- and once where an abort of the number is open
  named_now : (a : ℕ) → finmap.get aborts n ≡ Some a → how_many (names_task x) pool ≡ 1
  named_now a f =
      let o = abort_slot n (slot_of pool a) (h.aborting n a f) in
      let t = its_task a (task_in (slot_of pool a)) o in
      let l = some_names x pool a n (o ∙ ap (λ k. Open (request.Abort n k)) t) in
      let m = named_once in
      omega (arith, l, m)

  pub answered : Books 0 (set pool (x - 1) after) (finmap.remove cmds n) aborts accepted
  answered =
      record {
        table = length-set pool (x - 1) after ∙ h.table;
        commands = λ z m f. let q = was_open z (request.Command m) f in command z m q.0 (h.commands z m q.1) (n == m) refl (get_removed cmds n m);
        opened = λ m c f. open_one m c f (n == m) refl (get_removed cmds n m);
        aborted = λ z m task k f. let q = was_open z (request.Abort m task) f in h.aborted z m task k q.1;
        aborting = λ m z f. ap (aborts_it m) (elsewhere z (λ s. clash (aborts_it m (slot_of pool z)) (h.aborting m z f) (ap (aborts_it m) (ap (slot_of pool) s ∙ e)))) ∙ h.aborting m z f;
        names = λ z m task k f. let q = was_open z (request.Abort m task) f in name z m task k q.1 (n == m) refl (get_removed cmds n m);
        parked = λ t f. still t f (t == x) refl;
        known = λ m f. known_one m f (n == m) (get_removed cmds n m);
        abort_known = h.abort_known;
      }
    where
      elsewhere : (j : ℕ) → (j ≡ x → ⊥) → slot_of (set pool (x - 1) after) j ≡ slot_of pool j
      elsewhere j g = by_key (j == x) refl
        where
          by_key : (k : Bool) → (j == x) ≡ k → slot_of (set pool (x - 1) after) j ≡ slot_of pool j
          by_key true f = absurd (g (eqb-true j x f))
          by_key false f = at_answer j false f

      command : (z m : ℕ) → (z == x) ≡ false → IsIn class.ScsiIo z × (option_map (λ (c : Cmd). c.smid) (finmap.get cmds m) ≡ Some z) → (b : Bool) → (n == m) ≡ b → finmap.get (finmap.remove cmds n) m ≡ cond b None (finmap.get cmds m)
          → IsIn class.ScsiIo z × (option_map (λ (c : Cmd). c.smid) (finmap.get (finmap.remove cmds n) m) ≡ Some z)
      command z m k g true t r =
          let same : n ≡ m = eqb-true n m t in
          let u = under z m (finmap.get cmds n) (subst (λ i. option_map (λ (c : Cmd). c.smid) (finmap.get cmds i) ≡ Some z) (sym same) g.1) (h.commands x n e).1 in
          absurd (differ z x k u)
      command z m k g false t r = (g.0, ap (option_map (λ (c : Cmd). c.smid)) r ∙ g.1)

      open_one : (m : ℕ) (c : Cmd) → finmap.get (finmap.remove cmds n) m ≡ Some c → (b : Bool) → (n == m) ≡ b → finmap.get (finmap.remove cmds n) m ≡ cond b None (finmap.get cmds m) → slot_of (set pool (x - 1) after) c.smid ≡ Open (request.Command m)
      open_one m c f true t r = let q : None ≡ Some c = sym r ∙ f in absurd (cc)
      open_one m c f false t r =
          let o = h.opened m c (sym r ∙ f) in
          elsewhere c.smid (λ s. differ n m t (ap number_in (sym e ∙ (sym (ap (slot_of pool) s) ∙ o)))) ∙ o

      named_still : (task : ℕ) (o : Option Cmd) → Named pool task o → Named (set pool (x - 1) after) task o
      named_still task (Some c) i = i
      named_still task None i = elsewhere task (λ s. not_both (sym i ∙ (ap (slot_of pool) s ∙ e))) ∙ i
        where
          not_both : Parked ≡ Open (request.Command n) → ⊥
          not_both q = cc

      name : (z m task : ℕ) → (z == 0) ≡ false → slot_of pool z ≡ Open (request.Abort m task) → (b : Bool) → (n == m) ≡ b → finmap.get (finmap.remove cmds n) m ≡ cond b None (finmap.get cmds m) → Named (set pool (x - 1) after) task (finmap.get (finmap.remove cmds n) m)
      name z m task k f true t r =
          let same : m ≡ n = sym (eqb-true n m t) in
          let g : slot_of pool z ≡ Open (request.Abort n task) = subst (λ i. slot_of pool z ≡ Open (request.Abort i task)) same f in
          let it : task ≡ x = its_task z task g in
          let a = h.aborted z n task k g in
          subst (Named (set pool (x - 1) after) task) (sym r) (ap (slot_of (set pool (x - 1) after)) it ∙ (at_answer x true (same_is x) ∙ ap slot_after a))
      name z m task k f false t r = subst (Named (set pool (x - 1) after) task) (sym r) (named_still task (finmap.get cmds m) (h.names z m task k f))

      still : (t : ℕ) → slot_of (set pool (x - 1) after) t ≡ Parked → (k : Bool) → (t == x) ≡ k → IsIn class.ScsiIo t × (how_many (names_task t) (set pool (x - 1) after) ≡ 1)
      still t f true k =
          let same : x ≡ t = sym (eqb-true t x k) in
          let p = inside pool x (Open (request.Command n)) e (λ z. absurd (cc)) in
          subst (λ i. IsIn class.ScsiIo i × (how_many (names_task i) (set pool (x - 1) after) ≡ 1)) same ((h.commands x n e).0, by_abort (finmap.get aborts n) refl (sym (at_answer t true k) ∙ f))
        where
          by_abort : (o : Option ℕ) → finmap.get aborts n ≡ o → after ≡ Parked → how_many (names_task x) (set pool (x - 1) after) ≡ 1
          by_abort None g q = let z : Free ≡ Parked = sym (ap slot_after g) ∙ q in absurd (cc)
          by_abort (Some a) g q =
              let p = inside pool x (Open (request.Command n)) e (λ z. absurd (cc)) in
              let c = counted x pool x after p.0 p.1 in
              let u : one_if (names_task x (slot_of pool x)) ≡ 0 = ap (λ o. one_if (names_task x o)) e in
              let v : one_if (names_task x after) ≡ 0 = ap one_if (after_names x (finmap.get aborts n)) in
              let m = named_now a g in
              omega (arith, c, u, v, m)
      still t f false k =
          let old : slot_of pool t ≡ Parked = sym (at_answer t false k) ∙ f in
          let q = h.parked t old in
          let p = inside pool x (Open (request.Command n)) e (λ z. absurd (cc)) in
          let c = counted t pool x after p.0 p.1 in
          let u : one_if (names_task t (slot_of pool x)) ≡ 0 = ap (λ o. one_if (names_task t o)) e in
          let v : one_if (names_task t after) ≡ 0 = ap one_if (after_names t (finmap.get aborts n)) in
          let m = q.1 in
          (q.0, omega (arith, c, u, v, m))

      known_one : (m : ℕ) → is_some (finmap.get (finmap.remove cmds n) m) ≡ true → (b : Bool) → finmap.get (finmap.remove cmds n) m ≡ cond b None (finmap.get cmds m) → finset.contains accepted m ≡ true
      known_one m f true r = let q : false ≡ true = sym (ap is_some r) ∙ f in absurd (cc)
      known_one m f false r = h.known m (sym (ap is_some r) ∙ f)

-- ---- an abort ends

module _ (pool : List (Slot Request)) (cmds : Cmds) (aborts : Aborts) (accepted : Numbers) (x n task : ℕ) (e : slot_of pool x ≡ Open (request.Abort n task)) (h : Books 0 pool cmds aborts accepted) where
  x_not_zero : (x == 0) ≡ false
  x_not_zero = by_key x e
    where
      by_key : (z : ℕ) → slot_of pool z ≡ Open (request.Abort n task) → (z == 0) ≡ false
      by_key zero f = absurd (cc)
      by_key (suc i) f = grind (arith, nat_tests)

  ending : finmap.get aborts n ≡ Some x
  ending = h.aborted x n task x_not_zero e

  zero_of : (z : ℕ) (r : Request) → slot_of pool z ≡ Open r → (z == 0) ≡ false
  zero_of zero r f = absurd (cc)
  zero_of (suc i) r f = grind (arith, nat_tests)

  -- another abort is of another number
  other : (z m t : ℕ) → (z == x) ≡ false → slot_of pool z ≡ Open (request.Abort m t) → finmap.get (finmap.remove aborts n) m ≡ Some z
  other z m t k f = by_key (n == m) refl (get_removed aborts n m)
    where
      g : finmap.get aborts m ≡ Some z
      g = h.aborted z m t (zero_of z (request.Abort m t) f) f

      by_key : (b : Bool) → (n == m) ≡ b → finmap.get (finmap.remove aborts n) m ≡ cond b None (finmap.get aborts m) → finmap.get (finmap.remove aborts n) m ≡ Some z
      by_key true c r =
          let same : n ≡ m = eqb-true n m c in
          let q : Some x ≡ Some z = sym ending ∙ (ap (finmap.get aborts) same ∙ g) in
          let y : z ≡ x = cc in
          absurd (differ z x k y)
      by_key false c r = r ∙ g

  gone : (m z : ℕ) → finmap.get (finmap.remove aborts n) m ≡ Some z → finmap.get aborts m ≡ Some z
  gone m z f = by_key (n == m) (get_removed aborts n m)
    where
      by_key : (b : Bool) → finmap.get (finmap.remove aborts n) m ≡ cond b None (finmap.get aborts m) → finmap.get aborts m ≡ Some z
      by_key true r = let q : None ≡ Some z = sym r ∙ f in absurd (cc)
      by_key false r = sym r ∙ f

  still_known : (m : ℕ) → is_some (finmap.get (finmap.remove aborts n) m) ≡ true → finset.contains accepted m ≡ true
  still_known m f = by_key (n == m) (get_removed aborts n m)
    where
      by_key : (b : Bool) → finmap.get (finmap.remove aborts n) m ≡ cond b None (finmap.get aborts m) → finset.contains accepted m ≡ true
      by_key true r = let q : false ≡ true = sym (ap is_some r) ∙ f in absurd (cc)
      by_key false r = h.abort_known m (sym (ap is_some r) ∙ f)

  -- none of the others stands under its identifier
  none_here : (m : ℕ) → finmap.get (finmap.remove aborts n) m ≡ Some x → ⊥
  none_here m f =
      let a = h.aborting m x (gone m x f) in
      let same : n ≡ m = eqb-true n m (sym (ap (aborts_it m) e) ∙ a) in
      let t : (n == m) ≡ true = subst (λ k. (n == k) ≡ true) same (same_is n) in
      let r : None ≡ Some x = sym (get_removed aborts n m ∙ ap (λ (b : Bool). cond b None (finmap.get aborts m)) t) ∙ f in
      cc

  -- what it names isn't parked
  pub ended_open : (slot_of pool task ≡ Parked → ⊥) → Books x pool cmds (finmap.remove aborts n) accepted × IsBeside cmds (finmap.remove aborts n) accepted pool x
  ended_open u =
      let p = inside pool x (Open (request.Abort n task)) e (λ z. absurd (cc)) in (
        record {
          table = h.table;
          commands = h.commands;
          opened = h.opened;
          aborted = λ z m t k f. other z m t k f;
          aborting = λ m z f. h.aborting m z (gone m z f);
          names = λ z m t k f. h.names z m t (zero_of z (request.Abort m t) f) f;
          parked = h.parked;
          known = h.known;
          abort_known = still_known;
        },
        record {
          least = p.0;
          most = p.1;
          no_command = λ m f. not_both m (sym e ∙ f);
          not_parked = λ f. not_parked (sym e ∙ f);
          no_abort = none_here;
          unnamed = λ t f. ap (names_task t) e ∙ by_key t f (task == t) refl;
        },
      )
    where
      not_both : (m : ℕ) → Open (request.Abort n task) ≡ Open (request.Command m) → ⊥
      not_both m q = cc

      not_parked : Open (request.Abort n task) ≡ Parked → ⊥
      not_parked q = cc

      by_key : (t : ℕ) → slot_of pool t ≡ Parked → (b : Bool) → (task == t) ≡ b → b ≡ false
      by_key t f true k = absurd (u (ap (slot_of pool) (eqb-true task t k) ∙ f))
      by_key t f false k = refl

  -- and where it is, it is free
  pub ended_parked : slot_of pool task ≡ Parked → Books x (set pool (task - 1) Free) cmds (finmap.remove aborts n) accepted × IsBeside cmds (finmap.remove aborts n) accepted (set pool (task - 1) Free) x
  ended_parked y = (
    record {
      table = length-set pool (task - 1) Free ∙ h.table;
      commands = λ z m f. h.commands z m (was z (request.Command m) f);
      opened = λ m c f. let o = h.opened m c f in elsewhere c.smid (λ s. not_open (request.Command m) (sym o ∙ (ap (slot_of pool) s ∙ y))) ∙ o;
      aborted = λ z m t k f. other z m t k (was z (request.Abort m t) f);
      aborting = λ m z f. let a = h.aborting m z (gone m z f) in ap (aborts_it m) (elsewhere z (λ s. clash (aborts_it m (slot_of pool z)) a (ap (aborts_it m) (ap (slot_of pool) s ∙ y)))) ∙ a;
      names = λ z m t k f. let o = was z (request.Abort m t) f in name z m t k o (finmap.get cmds m) (h.names z m t (zero_of z (request.Abort m t) o) o);
      parked = λ t f. still t f (t == task) refl;
      known = h.known;
      abort_known = still_known;
    },
    record {
      least = place_x.0;
      most = subst (λ k. x - 1 < k) (sym (length-set pool (task - 1) Free)) place_x.1;
      no_command = λ m f. not_command m (sym at_x ∙ f);
      not_parked = λ f. not_open (request.Abort n task) (sym at_x ∙ f);
      no_abort = none_here;
      unnamed = λ t f. ap (names_task t) at_x ∙ unnamed t f (t == task) refl (task == t) refl;
    },
  )
    where
      place_x : (1 ≤ x) × (x - 1 < length pool)
      place_x = inside pool x (Open (request.Abort n task)) e (λ z. absurd (cc))

      place_t : (1 ≤ task) × (task - 1 < length pool)
      place_t = inside pool task Parked y (λ z. absurd (cc))

      not_open : (r : Request) → Open r ≡ Parked → ⊥
      not_open r q = cc

      not_command : (m : ℕ) → Open (request.Abort n task) ≡ Open (request.Command m) → ⊥
      not_command m q = cc

      at_by : (j : ℕ) (k : Bool) → (j == task) ≡ k → slot_of (set pool (task - 1) Free) j ≡ cond k Free (slot_of pool j)
      at_by j k f = slot_of-set pool task j Free place_t.0 place_t.1 ∙ ap (λ (c : Bool). cond c Free (slot_of pool j)) f

      elsewhere : (j : ℕ) → (j ≡ task → ⊥) → slot_of (set pool (task - 1) Free) j ≡ slot_of pool j
      elsewhere j g = by_key (j == task) refl
        where
          by_key : (k : Bool) → (j == task) ≡ k → slot_of (set pool (task - 1) Free) j ≡ slot_of pool j
          by_key true f = absurd (g (eqb-true j task f))
          by_key false f = at_by j false f

      at_x : slot_of (set pool (task - 1) Free) x ≡ Open (request.Abort n task)
      at_x = elsewhere x (λ s. not_open (request.Abort n task) (sym e ∙ (ap (slot_of pool) s ∙ y))) ∙ e

      -- what is open was so
      was : (z : ℕ) (r : Request) → slot_of (set pool (task - 1) Free) z ≡ Open r → slot_of pool z ≡ Open r
      was z r f = by_key (z == task) refl
        where
          by_key : (b : Bool) → (z == task) ≡ b → slot_of pool z ≡ Open r
          by_key true k = let p : Free ≡ Open r = sym (at_by z true k) ∙ f in absurd (cc)
          by_key false k = sym (at_by z false k) ∙ f

      -- another that names what was parked is the one that ends
      name : (z m t : ℕ) → (z == x) ≡ false → slot_of pool z ≡ Open (request.Abort m t) → (o : Option Cmd) → Named pool t o → Named (set pool (task - 1) Free) t o
      name z m t k f (Some c) i = i
      name z m t k f None i = elsewhere t (λ s. differ z x k (one_names task pool z x m n (f ∙ ap (λ j. Open (request.Abort m j)) s) e most)) ∙ i
        where
          most : how_many (names_task task) pool ≤ 1
          most = let c = (h.parked task y).1 in omega (arith, c)

      still : (t : ℕ) → slot_of (set pool (task - 1) Free) t ≡ Parked → (k : Bool) → (t == task) ≡ k → IsIn class.ScsiIo t × (how_many (names_task t) (set pool (task - 1) Free) ≡ 1)
      still t f true k = let q : Free ≡ Parked = sym (at_by t true k) ∙ f in absurd (cc)
      still t f false k =
          let q = h.parked t (sym (at_by t false k) ∙ f) in
          let c = counted t pool task Free place_t.0 place_t.1 in
          let u : one_if (names_task t (slot_of pool task)) ≡ 0 = ap (λ o. one_if (names_task t o)) y in
          let m = q.1 in
          (q.0, omega (arith, c, u, m))

      unnamed : (t : ℕ) → slot_of (set pool (task - 1) Free) t ≡ Parked → (k : Bool) → (t == task) ≡ k → (b : Bool) → (task == t) ≡ b → b ≡ false
      unnamed t f true k b g = let q : Free ≡ Parked = sym (at_by t true k) ∙ f in absurd (cc)
      unnamed t f false k true g = absurd (differ t task k (sym (eqb-true task t g)))
      unnamed t f false k false g = refl

-- ---- a submission is accepted

module _ (pool : List (Slot Request)) (cmds : Cmds) (aborts : Aborts) (accepted : Numbers) (n x handle : ℕ) (new : finset.contains accepted n ≡ false) (least : least_free class.ScsiIo pool ≡ Some x) (h : Books 0 pool cmds aborts accepted) where
  abbrev accepted_cmd : Cmd
  accepted_cmd = record { smid = x; handle = handle }

  free_there : slot_of pool x ≡ Free
  free_there = (least_is class.ScsiIo pool x least).free

  place_accepted : (1 ≤ x) × (x - 1 < length pool)
  place_accepted = let i = class_within class.ScsiIo x (least_is class.ScsiIo pool x least).inside in let t = h.table in let a = i.0 in let b = i.1 in (a, omega (arith, t, a, b))

  at_accept : (j : ℕ) (k : Bool) → (j == x) ≡ k → slot_of (set pool (x - 1) (Open (request.Command n))) j ≡ cond k (Open (request.Command n)) (slot_of pool j)
  at_accept j k f = slot_of-set pool x j (Open (request.Command n)) place_accepted.0 place_accepted.1 ∙ ap (λ (c : Bool). cond c (Open (request.Command n)) (slot_of pool j)) f

  accept_elsewhere : (j : ℕ) → (j ≡ x → ⊥) → slot_of (set pool (x - 1) (Open (request.Command n))) j ≡ slot_of pool j
  accept_elsewhere j g = by_key (j == x) refl
    where
      by_key : (k : Bool) → (j == x) ≡ k → slot_of (set pool (x - 1) (Open (request.Command n))) j ≡ slot_of pool j
      by_key true f = absurd (g (eqb-true j x f))
      by_key false f = at_accept j false f

  not_cmd : is_some (finmap.get cmds n) ≡ true → ⊥
  not_cmd f = clash (finset.contains accepted n) (h.known n f) new

  not_abort : is_some (finmap.get aborts n) ≡ true → ⊥
  not_abort f = clash (finset.contains accepted n) (h.abort_known n f) new

  pub accepts : Books 0 (set pool (x - 1) (Open (request.Command n))) (finmap.insert cmds n accepted_cmd) aborts (finset.insert accepted n)
  accepts =
      record {
        table = length-set pool (x - 1) (Open (request.Command n)) ∙ h.table;
        commands = λ z m f. command z m f (z == x) refl;
        opened = λ m c f. open_one m c f (n == m) refl (get_inserted cmds n accepted_cmd m);
        aborted = λ z m task k f. h.aborted z m task k (was z m task f);
        aborting = λ m z f. let a = h.aborting m z f in ap (aborts_it m) (accept_elsewhere z (λ s. clash (aborts_it m (slot_of pool z)) a (ap (aborts_it m) (ap (slot_of pool) s ∙ free_there)))) ∙ a;
        names = λ z m task k f. let o = was z m task f in name z m task (h.aborted z m task k o) (h.names z m task k o) (n == m) refl (get_inserted cmds n accepted_cmd m);
        parked = λ t f. still t f (t == x) refl;
        known = λ m f. known_one m f (n == m) (get_inserted cmds n accepted_cmd m) (contains_inserted accepted n m);
        abort_known = λ m f. more m (h.abort_known m f) (n == m) (contains_inserted accepted n m);
      }
    where
      number_same : (m : ℕ) → Open (request.Command n) ≡ Open (request.Command m) → n ≡ m
      number_same m q = ap number_in q

      command : (z m : ℕ) → slot_of (set pool (x - 1) (Open (request.Command n))) z ≡ Open (request.Command m) → (k : Bool) → (z == x) ≡ k → IsIn class.ScsiIo z × (option_map (λ (c : Cmd). c.smid) (finmap.get (finmap.insert cmds n accepted_cmd) m) ≡ Some z)
      command z m f true k =
          let same : z ≡ x = eqb-true z x k in
          let sn : n ≡ m = number_same m (sym (at_accept z true k) ∙ f) in
          let t : (n == m) ≡ true = subst (λ i. (n == i) ≡ true) sn (same_is n) in
          let g = get_inserted cmds n accepted_cmd m ∙ ap (λ (b : Bool). cond b (Some accepted_cmd) (finmap.get cmds m)) t in
          (subst (IsIn class.ScsiIo) (sym same) (least_is class.ScsiIo pool x least).inside, ap (option_map (λ (c : Cmd). c.smid)) g ∙ ap Some (sym same))
      command z m f false k =
          let o = h.commands z m (sym (at_accept z false k) ∙ f) in
          (o.0, ap (option_map (λ (c : Cmd). c.smid)) (apart m (n == m) refl (some_of_map (finmap.get cmds m) z o.1)) ∙ o.1)
        where
          some_of_map : (o : Option Cmd) (z : ℕ) → option_map (λ (c : Cmd). c.smid) o ≡ Some z → is_some o ≡ true
          some_of_map None z q = absurd (cc)
          some_of_map (Some c) z q = refl

          apart : (m : ℕ) (b : Bool) → (n == m) ≡ b → is_some (finmap.get cmds m) ≡ true → finmap.get (finmap.insert cmds n accepted_cmd) m ≡ finmap.get cmds m
          apart m true t q = let same : n ≡ m = eqb-true n m t in absurd (not_cmd (ap (λ i. is_some (finmap.get cmds i)) same ∙ q))
          apart m false t q = get_inserted cmds n accepted_cmd m ∙ ap (λ (b : Bool). cond b (Some accepted_cmd) (finmap.get cmds m)) t

      open_one : (m : ℕ) (c : Cmd) → finmap.get (finmap.insert cmds n accepted_cmd) m ≡ Some c → (b : Bool) → (n == m) ≡ b → finmap.get (finmap.insert cmds n accepted_cmd) m ≡ cond b (Some accepted_cmd) (finmap.get cmds m)
          → slot_of (set pool (x - 1) (Open (request.Command n))) c.smid ≡ Open (request.Command m)
      open_one m c f true t g =
          let q : Some accepted_cmd ≡ Some c = sym g ∙ f in
          let same : c.smid ≡ x = cc in
          ap (slot_of (set pool (x - 1) (Open (request.Command n)))) same ∙ (at_accept x true (same_is x) ∙ ap (λ i. Open (request.Command i)) (eqb-true n m t))
      open_one m c f false t g = let o = h.opened m c (sym g ∙ f) in accept_elsewhere c.smid (λ s. not_free (sym o ∙ (ap (slot_of pool) s ∙ free_there))) ∙ o
        where
          not_free : Open (request.Command m) ≡ Free → ⊥
          not_free q = cc

      was : (z m task : ℕ) → slot_of (set pool (x - 1) (Open (request.Command n))) z ≡ Open (request.Abort m task) → slot_of pool z ≡ Open (request.Abort m task)
      was z m task f = by_key (z == x) refl
        where
          by_key : (k : Bool) → (z == x) ≡ k → slot_of pool z ≡ Open (request.Abort m task)
          by_key true k = let q : Open (request.Command n) ≡ Open (request.Abort m task) = sym (at_accept z true k) ∙ f in absurd (cc)
          by_key false k = sym (at_accept z false k) ∙ f

      named_still : (task : ℕ) (o : Option Cmd) → Named pool task o → Named (set pool (x - 1) (Open (request.Command n))) task o
      named_still task (Some c) i = i
      named_still task None i = accept_elsewhere task (λ s. not_free (sym i ∙ (ap (slot_of pool) s ∙ free_there))) ∙ i
        where
          not_free : parked_slot ≡ free_slot → ⊥
          not_free q = cc

      name : (z m task : ℕ) → finmap.get aborts m ≡ Some z → Named pool task (finmap.get cmds m) → (b : Bool) → (n == m) ≡ b → finmap.get (finmap.insert cmds n accepted_cmd) m ≡ cond b (Some accepted_cmd) (finmap.get cmds m)
          → Named (set pool (x - 1) (Open (request.Command n))) task (finmap.get (finmap.insert cmds n accepted_cmd) m)
      name z m task a i true t g = let same : n ≡ m = eqb-true n m t in absurd (not_abort (ap (λ j. is_some (finmap.get aborts j)) same ∙ ap is_some a))
      name z m task a i false t g = subst (Named (set pool (x - 1) (Open (request.Command n))) task) (sym g) (named_still task (finmap.get cmds m) i)

      still : (t : ℕ) → slot_of (set pool (x - 1) (Open (request.Command n))) t ≡ Parked → (k : Bool) → (t == x) ≡ k → IsIn class.ScsiIo t × (how_many (names_task t) (set pool (x - 1) (Open (request.Command n))) ≡ 1)
      still t f true k = let q : Open (request.Command n) ≡ Parked = sym (at_accept t true k) ∙ f in absurd (cc)
      still t f false k =
          let q = h.parked t (sym (at_accept t false k) ∙ f) in
          let c = counted t pool x (Open (request.Command n)) place_accepted.0 place_accepted.1 in
          let u : one_if (names_task t (slot_of pool x)) ≡ 0 = ap (λ o. one_if (names_task t o)) free_there in
          let m = q.1 in
          (q.0, omega (arith, c, u, m))

      more : (m : ℕ) → finset.contains accepted m ≡ true → (b : Bool) → finset.contains (finset.insert accepted n) m ≡ (b || finset.contains accepted m) → finset.contains (finset.insert accepted n) m ≡ true
      more m f true g = g
      more m f false g = g ∙ f

      known_one : (m : ℕ) → is_some (finmap.get (finmap.insert cmds n accepted_cmd) m) ≡ true → (b : Bool) → finmap.get (finmap.insert cmds n accepted_cmd) m ≡ cond b (Some accepted_cmd) (finmap.get cmds m) → finset.contains (finset.insert accepted n) m ≡ (b || finset.contains accepted m) → finset.contains (finset.insert accepted n) m ≡ true
      known_one m f true g r = r
      known_one m f false g r = r ∙ h.known m (sym (ap is_some g) ∙ f)

-- ---- an abort is asked

module _ (pool : List (Slot Request)) (cmds : Cmds) (aborts : Aborts) (accepted : Numbers) (n x : ℕ) (cmd : Cmd) (there : finmap.get cmds n ≡ Some cmd) (none : finmap.get aborts n ≡ None) (least : least_free class.High pool ≡ Some x) (h : Books 0 pool cmds aborts accepted) where
  abbrev asked : Slot Request
  asked = Open (request.Abort n cmd.smid)

  free_high : slot_of pool x ≡ Free
  free_high = (least_is class.High pool x least).free

  place_asked : (1 ≤ x) × (x - 1 < length pool)
  place_asked = let i = class_within class.High x (least_is class.High pool x least).inside in let t = h.table in let a = i.0 in let b = i.1 in (a, omega (arith, t, a, b))

  at_asked : (j : ℕ) (k : Bool) → (j == x) ≡ k → slot_of (set pool (x - 1) asked) j ≡ cond k asked (slot_of pool j)
  at_asked j k f = slot_of-set pool x j asked place_asked.0 place_asked.1 ∙ ap (λ (c : Bool). cond c asked (slot_of pool j)) f

  asked_elsewhere : (j : ℕ) → (j ≡ x → ⊥) → slot_of (set pool (x - 1) asked) j ≡ slot_of pool j
  asked_elsewhere j g = by_key (j == x) refl
    where
      by_key : (k : Bool) → (j == x) ≡ k → slot_of (set pool (x - 1) asked) j ≡ slot_of pool j
      by_key true f = absurd (g (eqb-true j x f))
      by_key false f = at_asked j false f

  pub asks_abort : Books 0 (set pool (x - 1) asked) cmds (finmap.insert aborts n x) accepted
  asks_abort =
      record {
        table = length-set pool (x - 1) asked ∙ h.table;
        commands = λ z m f. h.commands z m (command z m f (z == x) refl);
        opened = λ m c f. let o = h.opened m c f in asked_elsewhere c.smid (λ s. not_free m (sym o ∙ (ap (slot_of pool) s ∙ free_high))) ∙ o;
        aborted = λ z m task k f. aborted_one z m task k f (z == x) refl;
        aborting = λ m z f. aborting_one m z f (n == m) refl (get_inserted aborts n x m);
        names = λ z m task k f. name z m task k f (z == x) refl;
        parked = λ t f. still t f (t == x) refl;
        known = h.known;
        abort_known = λ m f. known_one m f (n == m) refl (get_inserted aborts n x m);
      }
    where
      not_free : (m : ℕ) → Open (request.Command m) ≡ Free → ⊥
      not_free m q = cc

      command : (z m : ℕ) → slot_of (set pool (x - 1) asked) z ≡ Open (request.Command m) → (k : Bool) → (z == x) ≡ k → slot_of pool z ≡ Open (request.Command m)
      command z m f true k = let q : asked ≡ Open (request.Command m) = sym (at_asked z true k) ∙ f in absurd (cc)
      command z m f false k = sym (at_asked z false k) ∙ f

      same_abort : (m task : ℕ) → asked ≡ Open (request.Abort m task) → (n ≡ m) × (cmd.smid ≡ task)
      same_abort m task q = (ap number_in q, ap task_in q)

      apart : (m : ℕ) (z : ℕ) → finmap.get aborts m ≡ Some z → (b : Bool) → (n == m) ≡ b → finmap.get (finmap.insert aborts n x) m ≡ Some z
      apart m z a true t = let q : Some z ≡ None = sym a ∙ (ap (finmap.get aborts) (sym (eqb-true n m t)) ∙ none) in absurd (cc)
      apart m z a false t = get_inserted aborts n x m ∙ (ap (λ (b : Bool). cond b (Some x) (finmap.get aborts m)) t ∙ a)

      aborted_one : (z m task : ℕ) → (z == 0) ≡ false → slot_of (set pool (x - 1) asked) z ≡ Open (request.Abort m task) → (k : Bool) → (z == x) ≡ k → finmap.get (finmap.insert aborts n x) m ≡ Some z
      aborted_one z m task g f true k =
          let s = (same_abort m task (sym (at_asked z true k) ∙ f)).0 in
          let t : (n == m) ≡ true = subst (λ i. (n == i) ≡ true) s (same_is n) in
          get_inserted aborts n x m ∙ (ap (λ (b : Bool). cond b (Some x) (finmap.get aborts m)) t ∙ ap Some (sym (eqb-true z x k)))
      aborted_one z m task g f false k = apart m z (h.aborted z m task g (sym (at_asked z false k) ∙ f)) (n == m) refl

      aborting_one : (m z : ℕ) → finmap.get (finmap.insert aborts n x) m ≡ Some z → (b : Bool) → (n == m) ≡ b → finmap.get (finmap.insert aborts n x) m ≡ cond b (Some x) (finmap.get aborts m) → aborts_it m (slot_of (set pool (x - 1) asked) z) ≡ true
      aborting_one m z f true t g =
          let q : Some x ≡ Some z = sym g ∙ f in
          let same : x ≡ z = cc in
          let o = at_asked x true (same_is x) in
          subst (λ i. aborts_it m (slot_of (set pool (x - 1) asked) i) ≡ true) same (ap (aborts_it m) o ∙ t)
      aborting_one m z f false t g =
          let a = h.aborting m z (sym g ∙ f) in
          ap (aborts_it m) (asked_elsewhere z (λ s. clash (aborts_it m (slot_of pool z)) a (ap (aborts_it m) (ap (slot_of pool) s ∙ free_high)))) ∙ a

      named_still : (task : ℕ) (o : Option Cmd) → Named pool task o → Named (set pool (x - 1) asked) task o
      named_still task (Some c) i = i
      named_still task None i = asked_elsewhere task (λ s. parked_free (sym i ∙ (ap (slot_of pool) s ∙ free_high))) ∙ i
        where
          parked_free : parked_slot ≡ free_slot → ⊥
          parked_free q = cc

      name : (z m task : ℕ) → (z == 0) ≡ false → slot_of (set pool (x - 1) asked) z ≡ Open (request.Abort m task) → (k : Bool) → (z == x) ≡ k → Named (set pool (x - 1) asked) task (finmap.get cmds m)
      name z m task g f true k =
          let s = same_abort m task (sym (at_asked z true k) ∙ f) in
          subst (λ i. Named (set pool (x - 1) asked) task (finmap.get cmds i)) s.0 (subst (Named (set pool (x - 1) asked) task) (sym there) s.1)
      name z m task g f false k = named_still task (finmap.get cmds m) (h.names z m task g (sym (at_asked z false k) ∙ f))

      still : (t : ℕ) → slot_of (set pool (x - 1) asked) t ≡ Parked → (k : Bool) → (t == x) ≡ k → IsIn class.ScsiIo t × (how_many (names_task t) (set pool (x - 1) asked) ≡ 1)
      still t f true k = let q : asked ≡ Parked = sym (at_asked t true k) ∙ f in absurd (cc)
      still t f false k =
          let old : slot_of pool t ≡ Parked = sym (at_asked t false k) ∙ f in
          let q = h.parked t old in
          let c = counted t pool x asked place_asked.0 place_asked.1 in
          let u : one_if (names_task t (slot_of pool x)) ≡ 0 = ap (λ o. one_if (names_task t o)) free_high in
          let v : one_if (names_task t asked) ≡ 0 = ap one_if (other_task t old (cmd.smid == t) refl) in
          let m = q.1 in
          (q.0, omega (arith, c, u, v, m))
        where
          other_task : (t : ℕ) → slot_of pool t ≡ Parked → (b : Bool) → (cmd.smid == t) ≡ b → b ≡ false
          other_task t o true k = let q : Open (request.Command n) ≡ Parked = sym (h.opened n cmd there) ∙ (ap (slot_of pool) (eqb-true cmd.smid t k) ∙ o) in absurd (cc)
          other_task t o false k = refl

      known_one : (m : ℕ) → is_some (finmap.get (finmap.insert aborts n x) m) ≡ true → (b : Bool) → (n == m) ≡ b → finmap.get (finmap.insert aborts n x) m ≡ cond b (Some x) (finmap.get aborts m) → finset.contains accepted m ≡ true
      known_one m f true t g = h.known m (ap (λ i. is_some (finmap.get cmds i)) (sym (eqb-true n m t)) ∙ ap is_some there)
      known_one m f false t g = h.abort_known m (sym (ap is_some g) ∙ f)

-- ---- all is free

abbrev none_open : Cmds
none_open = finmap.empty

abbrev none_named : Aborts
none_named = finmap.empty

no_cmds : (n : ℕ) → finmap.get none_open n ≡ None
no_cmds n = finmap.get-empty nat_cmp n

no_aborts : (n : ℕ) → finmap.get none_named n ≡ None
no_aborts n = finmap.get-empty nat_cmp n

pub all_anew : (accepted : Numbers) → Books 0 (replicate 280 free_slot) finmap.empty finmap.empty accepted
all_anew accepted =
    record {
      table = length_free 280 free_slot;
      commands = λ x n e. absurd (never x (request.Command n) e);
      opened = λ n c e. absurd (no_cmd n c e);
      aborted = λ x n task k e. absurd (never x (request.Abort n task) e);
      aborting = λ n x e. absurd (no_abort n x e);
      names = λ x n task k e. absurd (never x (request.Abort n task) e);
      parked = λ t e. absurd (not_parked t e);
      known = λ n e. let z : false ≡ true = sym (ap is_some (no_cmds n)) ∙ e in absurd (cc);
      abort_known = λ n e. let z : false ≡ true = sym (ap is_some (no_aborts n)) ∙ e in absurd (cc);
    }
  where
    never : (x : ℕ) (r : Request) → slot_of (replicate 280 free_slot) x ≡ Open r → ⊥
    never x r e = let z : Free ≡ Open r = sym (all_free_at 280 x) ∙ e in cc

    not_parked : (x : ℕ) → slot_of (replicate 280 free_slot) x ≡ Parked → ⊥
    not_parked x e = let z : free_slot ≡ Parked = sym (all_free_at 280 x) ∙ e in cc

    no_cmd : (n : ℕ) (c : Cmd) → finmap.get none_open n ≡ Some c → ⊥
    no_cmd n c e = let z : None ≡ Some c = sym (no_cmds n) ∙ e in cc

    no_abort : (n x : ℕ) → finmap.get none_named n ≡ Some x → ⊥
    no_abort n x e = let z : None ≡ Some x = sym (no_aborts n) ∙ e in cc
