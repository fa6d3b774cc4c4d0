-- What a submission, an abort and their ends make of the holder of an identifier s of a SCSI IO.
use Rattle.std.proofs.Common.{◌≡◌, ℕ, zero, suc, ◌-◌, ◌≤◌, ◌==◌, ◌&&◌, ◌||◌, not, Bool, true, false, cond, List, get_or, replicate, set, Option, Some, None, is_some, refl, ap, sym, subst, ◌∙◌, arith, length-set}
use Rattle.std.specs.FinMap as finmap
use Rattle.std.specs.FinSet as finset
use Rattle.std.specs.Ordering.{nat_cmp}
use Rattle.std.proofs.lemmas.Bool.Decides.{nat_tests}
use Rattle.std.proofs.lemmas.List.{length-replicate}
use Rattle.mpt_wire.specs.Queues.LeastFree.{Holder}
use Rattle.smid_pool.specs.Pool.{Free, Open, Parked, Slot, all_free, least_free, slot_of}
use Rattle.smid_pool.specs.declared.class.Class.TheVariants as class
use Rattle.mpt_rules.specs.declared.request.Request.{Request}
use Rattle.mpt_rules.specs.declared.request.Request.TheVariants as request
use Rattle.mpt_rules.specs.Host.Parts.{Cmd}
use Rattle.mpt_rules.specs.Host.Replies as replies
use Rattle.law_flights.proofs.HostHolds.{class_within, in_table, slot_of-set}
use Rattle.law_flights.proofs.Least.{least_is}
use Rattle.law_identifiers.proofs.Holders.{and_false, and_true, closed, get_inserted, get_removed, contains_inserted, ended, is_command, is_of_number, is_under, named, new_holder, number_in, of_command, only_command, slot_as, slot_by, under_one, under_some, unnamed}
use Rattle.law_identifiers.proofs.HeldSlots.{Aborts, Cmds, IsBeside, Keeps, Numbers, Stands}

-- ---- the holder alone

number_closed : (m n : ℕ) (o : Option Holder) → is_of_number m o ≡ is_of_number m (closed n o)
number_closed m n None = refl
number_closed m n (Some h) = refl

number_unnamed : (m n : ℕ) (o : Option Holder) → is_of_number m o ≡ is_of_number m (unnamed n o)
number_unnamed m n None = refl
number_unnamed m n (Some h) = refl

number_named : (m n : ℕ) (o : Option Holder) → is_of_number m o ≡ is_of_number m (named n o)
number_named m n None = refl
number_named m n (Some h) = refl

-- the command that is open, closed
slot_closed : (o : Option Holder) (n : ℕ) (cmds : Cmds) (aborts : Aborts) (accepted : Numbers) → slot_as o ≡ Open (request.Command n) → Stands o cmds aborts accepted → replies.slot_after (finmap.get aborts n) ≡ slot_as (closed n o)
slot_closed None n cmds aborts accepted e st = absurd (cc)
slot_closed (Some h) n cmds aborts accepted e st =
    let m = of_command (Some h) n e in
    let same : h.number ≡ n = grind (arith, nat_tests, m) in
    let key : (n == h.number) ≡ true = grind (arith, nat_tests, same) in
    let b : h.has_abort ≡ is_some (finmap.get aborts n) = st.1 ∙ ap (λ (k : ℕ). is_some (finmap.get aborts k)) same in
    sym (ap (λ (q : Bool). slot_by h.number (h.is_open && not q) h.has_abort) key
    ∙ (ap (λ (a : Bool). slot_by h.number a h.has_abort) (and_false h.is_open) ∙ (ap (λ (c : Bool). slot_by h.number false c) b ∙ by_abort (finmap.get aborts n))))
  where
    by_abort : (w : Option ℕ) → slot_by h.number false (is_some w) ≡ replies.slot_after w
    by_abort None = refl
    by_abort (Some x) = refl

-- another that is closed
slot_not_closed : (o : Option Holder) (n : ℕ) → (slot_as o ≡ Open (request.Command n) → ⊥) → slot_as o ≡ slot_as (closed n o)
slot_not_closed None n f = refl
slot_not_closed (Some h) n f = by_key (n == h.number) refl h.is_open f
  where
    by_key : (b : Bool) → (n == h.number) ≡ b → (a : Bool) → (slot_by h.number a h.has_abort ≡ Open (request.Command n) → ⊥) → slot_by h.number a h.has_abort ≡ slot_by h.number (a && not b) h.has_abort
    by_key true k true f = let same : h.number ≡ n = grind (arith, nat_tests, k) in absurd (f (ap (λ (m : ℕ). Open (request.Command m)) same))
    by_key true k false f = refl
    by_key false k true f = refl
    by_key false k false f = refl

stands_closed : (o : Option Holder) (n : ℕ) (cmds : Cmds) (aborts : Aborts) (accepted : Numbers) → Stands o cmds aborts accepted → Stands (closed n o) (finmap.remove cmds n) aborts accepted
stands_closed None n cmds aborts accepted st = tt
stands_closed (Some h) n cmds aborts accepted st = (by_key (n == h.number) (get_removed cmds n h.number), st.1, st.2)
  where
    by_key : (b : Bool) → finmap.get (finmap.remove cmds n) h.number ≡ cond b None (finmap.get cmds h.number) → (h.is_open && not b) ≡ is_some (finmap.get (finmap.remove cmds n) h.number)
    by_key true g = and_false h.is_open ∙ sym (ap is_some g)
    by_key false g = and_true h.is_open ∙ (st.0 ∙ sym (ap is_some g))

-- the parked one, freed
slot_freed : (o : Option Holder) (n : ℕ) → slot_as o ≡ Parked → is_of_number n o ≡ true → Free ≡ slot_as (unnamed n o)
slot_freed None n e k = absurd (cc)
slot_freed (Some h) n e k =
    let same : (n == h.number) ≡ true = grind (arith, nat_tests, k) in
    by_bools h.is_open h.has_abort e ∙ ap (λ (q : Bool). slot_by h.number h.is_open (h.has_abort && not q)) (sym same)
  where
    by_bools : (a b : Bool) → slot_by h.number a b ≡ Parked → Free ≡ slot_by h.number a (b && not true)
    by_bools true b e = absurd (cc)
    by_bools false true e = refl
    by_bools false false e = absurd (cc)

-- another
unnamed_other : (o : Option Holder) (n : ℕ) → is_of_number n o ≡ false → o ≡ unnamed n o
unnamed_other None n k = refl
unnamed_other (Some h) n k =
    let apart : (n == h.number) ≡ false = grind (arith, nat_tests, k) in
    ap (λ (b : Bool). Some (record h { has_abort = b })) (sym (and_true h.has_abort)) ∙ ap (λ (q : Bool). Some (record h { has_abort = h.has_abort && not q })) (sym apart)

-- or the one that is open still
slot_stays : (o : Option Holder) (n : ℕ) (cmds : Cmds) (aborts : Aborts) (accepted : Numbers) → is_some (finmap.get aborts n) ≡ true → (slot_as o ≡ Parked → ⊥) → is_of_number n o ≡ true → Stands o cmds aborts accepted → slot_as o ≡ slot_as (unnamed n o)
slot_stays None n cmds aborts accepted w f k st = absurd (cc)
slot_stays (Some h) n cmds aborts accepted w f k st =
    let same : h.number ≡ n = grind (arith, nat_tests, k) in
    let b : h.has_abort ≡ true = st.1 ∙ (ap (λ (m : ℕ). is_some (finmap.get aborts m)) same ∙ w) in
    by_open h.is_open (λ e. f (ap (λ (c : Bool). slot_by h.number h.is_open c) b ∙ e))
  where
    by_open : (a : Bool) → (slot_by h.number a true ≡ Parked → ⊥) → slot_by h.number a h.has_abort ≡ slot_by h.number a (h.has_abort && not (n == h.number))
    by_open true f = refl
    by_open false f = absurd (f refl)

stands_unnamed : (o : Option Holder) (n : ℕ) (cmds : Cmds) (aborts : Aborts) (accepted : Numbers) → Stands o cmds aborts accepted → Stands (unnamed n o) cmds (finmap.remove aborts n) accepted
stands_unnamed None n cmds aborts accepted st = tt
stands_unnamed (Some h) n cmds aborts accepted st = (st.0, by_key (n == h.number) (get_removed aborts n h.number), st.2)
  where
    by_key : (b : Bool) → finmap.get (finmap.remove aborts n) h.number ≡ cond b None (finmap.get aborts h.number) → (h.has_abort && not b) ≡ is_some (finmap.get (finmap.remove aborts n) h.number)
    by_key true g = and_false h.has_abort ∙ sym (ap is_some g)
    by_key false g = and_true h.has_abort ∙ (st.1 ∙ sym (ap is_some g))

-- an abort that is asked: the slot stays, as its command is open
slot_named : (o : Option Holder) (n : ℕ) (cmds : Cmds) (aborts : Aborts) (accepted : Numbers) → is_some (finmap.get cmds n) ≡ true → Stands o cmds aborts accepted → slot_as o ≡ slot_as (named n o)
slot_named None n cmds aborts accepted w st = refl
slot_named (Some h) n cmds aborts accepted w st = by_key (n == h.number) refl
  where
    or_false : (b : Bool) → b ≡ (b || false)
    or_false true = refl
    or_false false = refl

    by_key : (b : Bool) → (n == h.number) ≡ b → slot_by h.number h.is_open h.has_abort ≡ slot_by h.number h.is_open (h.has_abort || b)
    by_key true k =
        let same : h.number ≡ n = grind (arith, nat_tests, k) in
        let a : h.is_open ≡ true = st.0 ∙ (ap (λ (m : ℕ). is_some (finmap.get cmds m)) same ∙ w) in
        ap (λ (c : Bool). slot_by h.number c h.has_abort) a ∙ ap (λ (c : Bool). slot_by h.number c (h.has_abort || true)) (sym a)
    by_key false k = ap (λ (c : Bool). slot_by h.number h.is_open c) (or_false h.has_abort)

stands_named : (o : Option Holder) (n x : ℕ) (cmds : Cmds) (aborts : Aborts) (accepted : Numbers) → Stands o cmds aborts accepted → Stands (named n o) cmds (finmap.insert aborts n x) accepted
stands_named None n x cmds aborts accepted st = tt
stands_named (Some h) n x cmds aborts accepted st = (st.0, by_key (n == h.number) (get_inserted aborts n x h.number), st.2)
  where
    by_key : (b : Bool) → finmap.get (finmap.insert aborts n x) h.number ≡ cond b (Some x) (finmap.get aborts h.number) → (h.has_abort || b) ≡ is_some (finmap.get (finmap.insert aborts n x) h.number)
    by_key true g = or_true h.has_abort ∙ sym (ap is_some g)
      where
        or_true : (b : Bool) → (b || true) ≡ true
        or_true true = refl
        or_true false = refl
    by_key false g = or_false h.has_abort ∙ (st.1 ∙ sym (ap is_some g))
      where
        or_false : (b : Bool) → (b || false) ≡ b
        or_false true = refl
        or_false false = refl

-- the holder's command is the one that is open under the identifier, where one of its number is open
number_open : (o : Option Holder) (n : ℕ) (cmds : Cmds) (aborts : Aborts) (accepted : Numbers) → is_some (finmap.get cmds n) ≡ true → is_of_number n o ≡ true → Stands o cmds aborts accepted → slot_as o ≡ Open (request.Command n)
number_open None n cmds aborts accepted w k st = absurd (cc)
number_open (Some h) n cmds aborts accepted w k st =
    let same : h.number ≡ n = grind (arith, nat_tests, k) in
    let a : h.is_open ≡ true = st.0 ∙ (ap (λ (m : ℕ). is_some (finmap.get cmds m)) same ∙ w) in
    ap (λ (c : Bool). slot_by h.number c h.has_abort) a ∙ ap (λ (m : ℕ). Open (request.Command m)) same

-- a free identifier's holder names nothing that is open
free_named : (o : Option Holder) (n : ℕ) (cmds : Cmds) (aborts : Aborts) (accepted : Numbers) → slot_as o ≡ Free → is_some (finmap.get aborts n) ≡ true → Stands o cmds aborts accepted → is_of_number n o ≡ false
free_named None n cmds aborts accepted e w st = refl
free_named (Some h) n cmds aborts accepted e w st = by_key (h.number == n) refl
  where
    by_bools : (a b : Bool) → slot_by h.number a b ≡ Free → b ≡ true → ⊥
    by_bools true b e t = cc
    by_bools false true e t = cc
    by_bools false false e t = cc

    by_key : (b : Bool) → (h.number == n) ≡ b → b ≡ false
    by_key false k = refl
    by_key true k =
        let same : h.number ≡ n = grind (arith, nat_tests, k) in
        absurd (by_bools h.is_open h.has_abort e (st.1 ∙ (ap (λ (m : ℕ). is_some (finmap.get aborts m)) same ∙ w)))

-- a number that wasn't accepted is no holder's
new_apart : (o : Option Holder) (k : ℕ) (cmds : Cmds) (aborts : Aborts) (accepted : Numbers) → finset.contains accepted k ≡ false → Stands o cmds aborts accepted → is_of_number k o ≡ false
new_apart None k cmds aborts accepted f st = refl
new_apart (Some h) k cmds aborts accepted f st = by_key (h.number == k) refl
  where
    by_key : (b : Bool) → (h.number == k) ≡ b → b ≡ false
    by_key false t = refl
    by_key true t =
        let same : h.number ≡ k = grind (arith, nat_tests, t) in
        let p : true ≡ false = sym st.2 ∙ (ap (λ (m : ℕ). finset.contains accepted m) same ∙ f) in
        absurd (cc)

stands_accepted : (o : Option Holder) (k : ℕ) (c : Cmd) (cmds : Cmds) (aborts : Aborts) (accepted : Numbers) → is_of_number k o ≡ false → Stands o cmds aborts accepted → Stands o (finmap.insert cmds k c) aborts (finset.insert accepted k)
stands_accepted None k c cmds aborts accepted a st = tt
stands_accepted (Some h) k c cmds aborts accepted a st =
    let apart : (k == h.number) ≡ false = grind (arith, nat_tests, a) in
    let g = get_inserted cmds k c h.number in
    let m = contains_inserted accepted k h.number in (
      st.0 ∙ sym (ap is_some (g ∙ ap (λ (b : Bool). cond b (Some c) (finmap.get cmds h.number)) apart)),
      st.1,
      m ∙ (ap (λ (b : Bool). b || finset.contains accepted h.number) apart ∙ st.2),
    )

-- ---- the host

module _ (s : ℕ) (few : s ≤ 256) (o : Option Holder) (pool : List (Slot Request)) (cmds : Cmds) (aborts : Aborts) (accepted : Numbers) where
  -- a command is answered
  module _ (x n : ℕ) (e : slot_of pool x ≡ Open (request.Command n)) (h : Keeps s few 0 o pool cmds aborts accepted) where
    abbrev after_close : Slot Request
    after_close = replies.slot_after (finmap.get aborts n)

    pub answered : Keeps s few 0 (closed n o) (set pool (x - 1) after_close) (finmap.remove cmds n) aborts accepted
    answered =
        record {
          table = length-set pool (x - 1) after_close ∙ h.table;
          slot = by_slot (s == x) refl (at s);
          stands = stands_closed o n cmds aborts accepted h.stands;
          commands = λ z m f. command z m (z == x) refl (at z) f (n == m) refl (get_removed cmds n m);
          opened = λ m c f. open_one m c f (n == m) refl (get_removed cmds n m) (c.smid == x) refl (at c.smid);
          known = λ m f. known_one m f (n == m) (get_removed cmds n m);
          aborted = h.aborted;
          names = λ z m task k f. name z m task k (z == x) (at z) f;
        }
      where
        at : (j : ℕ) → slot_of (set pool (x - 1) after_close) j ≡ cond (j == x) after_close (slot_of pool j)
        at j = let p = in_table pool x (Open (request.Command n)) e (λ z. cc) in slot_of-set pool x j after_close p.0 p.1

        not_open : (w : Option ℕ) (r : Request) → replies.slot_after w ≡ Open r → ⊥
        not_open None r f = cc
        not_open (Some y) r f = cc

        by_slot : (b : Bool) → (s == x) ≡ b → slot_of (set pool (x - 1) after_close) s ≡ cond b after_close (slot_of pool s) → slot_of (set pool (x - 1) after_close) s ≡ slot_as (closed n o)
        by_slot true k a =
            let same : s ≡ x = grind (arith, nat_tests, k) in
            a ∙ slot_closed o n cmds aborts accepted (sym h.slot ∙ (ap (slot_of pool) same ∙ e)) h.stands
        by_slot false k a = a ∙ (h.slot ∙ slot_not_closed o n none)
          where
            none : slot_as o ≡ Open (request.Command n) → ⊥
            none f =
                let same : s ≡ x = under_one s x (finmap.get cmds n) (h.commands s n (h.slot ∙ f)) (h.commands x n e) in
                let p : (s == x) ≡ true = grind (arith, nat_tests, same) in
                let q : false ≡ true = sym k ∙ p in
                cc

        command : (z m : ℕ) (b : Bool) → (z == x) ≡ b → slot_of (set pool (x - 1) after_close) z ≡ cond b after_close (slot_of pool z) → slot_of (set pool (x - 1) after_close) z ≡ Open (request.Command m)
            → (c : Bool) → (n == m) ≡ c → finmap.get (finmap.remove cmds n) m ≡ cond c None (finmap.get cmds m) → is_under z (finmap.get (finmap.remove cmds n) m) ≡ true
        command z m true k a f c t g = absurd (not_open (finmap.get aborts n) (request.Command m) (sym a ∙ f))
        command z m false k a f true t g =
            let u = h.commands z m (sym a ∙ f) in
            let same : m ≡ n = grind (arith, nat_tests, t) in
            let y : z ≡ x = under_one z x (finmap.get cmds n) (subst (λ (q : ℕ). is_under z (finmap.get cmds q) ≡ true) same u) (h.commands x n e) in
            let p : (z == x) ≡ true = grind (arith, nat_tests, y) in
            let q : false ≡ true = sym k ∙ p in
            absurd (cc)
        command z m false k a f false t g = ap (is_under z) g ∙ h.commands z m (sym a ∙ f)

        open_one : (m : ℕ) (c : Cmd) → finmap.get (finmap.remove cmds n) m ≡ Some c → (b : Bool) → (n == m) ≡ b → finmap.get (finmap.remove cmds n) m ≡ cond b None (finmap.get cmds m)
            → (d : Bool) → (c.smid == x) ≡ d → slot_of (set pool (x - 1) after_close) c.smid ≡ cond d after_close (slot_of pool c.smid) → slot_of (set pool (x - 1) after_close) c.smid ≡ Open (request.Command m)
        open_one m c f true t g d k a = let p : None ≡ Some c = sym g ∙ f in absurd (cc)
        open_one m c f false t g true k a =
            let same : c.smid ≡ x = grind (arith, nat_tests, k) in
            let y : m ≡ n = ap number_in (sym (h.opened m c (sym g ∙ f)) ∙ (ap (slot_of pool) same ∙ e)) in
            let p : (n == m) ≡ true = grind (arith, nat_tests, y) in
            let q : false ≡ true = sym t ∙ p in
            absurd (cc)
        open_one m c f false t g false k a = a ∙ h.opened m c (sym g ∙ f)

        known_one : (m : ℕ) → is_some (finmap.get (finmap.remove cmds n) m) ≡ true → (b : Bool) → finmap.get (finmap.remove cmds n) m ≡ cond b None (finmap.get cmds m) → finset.contains accepted m ≡ true
        known_one m f true g = let p : false ≡ true = sym (ap is_some g) ∙ f in absurd (cc)
        known_one m f false g = h.known m (sym (ap is_some g) ∙ f)

        name : (z m task : ℕ) → (z == 0) ≡ false → (b : Bool) → slot_of (set pool (x - 1) after_close) z ≡ cond b after_close (slot_of pool z) → slot_of (set pool (x - 1) after_close) z ≡ Open (request.Abort m task)
            → (finmap.get aborts m ≡ Some z) × ((task == s) ≡ is_of_number m (closed n o))
        name z m task k true a f = absurd (not_open (finmap.get aborts n) (request.Abort m task) (sym a ∙ f))
        name z m task k false a f = let u = h.names z m task k (sym a ∙ f) in (u.0, u.1 ∙ number_closed m n o)

  -- an abort is ended: it isn't open any more, and the identifier that it names is free where it was parked
  module _ (x n task : ℕ) (e : slot_of pool x ≡ Open (request.Abort n task)) (h : Keeps s few 0 o pool cmds aborts accepted) where
    nonzero : (z : ℕ) (r : Request) → slot_of pool z ≡ Open r → (z == 0) ≡ false
    nonzero zero r f = absurd (cc)
    nonzero (suc i) r f = grind (arith, nat_tests)

    ending : (finmap.get aborts n ≡ Some x) × ((task == s) ≡ is_of_number n o)
    ending = h.names x n task (nonzero x (request.Abort n task) e) e

    -- of another abort
    other_name : (z m t : ℕ) → (z == x) ≡ false → slot_of pool z ≡ Open (request.Abort m t) → (finmap.get (finmap.remove aborts n) m ≡ Some z) × ((t == s) ≡ is_of_number m (unnamed n o))
    other_name z m t k f =
        let u = h.names z m t (nonzero z (request.Abort m t) f) f in
        (by_key (n == m) refl (get_removed aborts n m) u.0, u.1 ∙ number_unnamed m n o)
      where
        by_key : (b : Bool) → (n == m) ≡ b → finmap.get (finmap.remove aborts n) m ≡ cond b None (finmap.get aborts m) → finmap.get aborts m ≡ Some z → finmap.get (finmap.remove aborts n) m ≡ Some z
        by_key true t g u =
            let same : m ≡ n = grind (arith, nat_tests, t) in
            let p : Some z ≡ Some x = sym u ∙ (ap (finmap.get aborts) same ∙ ending.0) in
            let y : z ≡ x = cc in
            let r : (z == x) ≡ true = grind (arith, nat_tests, y) in
            let q : false ≡ true = sym k ∙ r in
            absurd (cc)
        by_key false t g u = g ∙ u

    aborted_one : (m : ℕ) → is_some (finmap.get (finmap.remove aborts n) m) ≡ true → (b : Bool) → finmap.get (finmap.remove aborts n) m ≡ cond b None (finmap.get aborts m) → finset.contains accepted m ≡ true
    aborted_one m f true g = let p : false ≡ true = sym (ap is_some g) ∙ f in absurd (cc)
    aborted_one m f false g = h.aborted m (sym (ap is_some g) ∙ f)

    -- what it names isn't parked
    pub ended_open : (slot_of pool task ≡ Parked → ⊥) → Keeps s few x (unnamed n o) pool cmds (finmap.remove aborts n) accepted
    ended_open not_parked =
        record {
          table = h.table;
          slot = h.slot ∙ by_number (is_of_number n o) refl;
          stands = stands_unnamed o n cmds aborts accepted h.stands;
          commands = h.commands;
          opened = h.opened;
          known = h.known;
          aborted = λ m f. aborted_one m f (n == m) (get_removed aborts n m);
          names = λ z m t k f. other_name z m t k f;
        }
      where
        by_number : (b : Bool) → is_of_number n o ≡ b → slot_as o ≡ slot_as (unnamed n o)
        by_number true k =
            let same_test : (task == s) ≡ true = ending.1 ∙ k in
            let same : s ≡ task = grind (arith, nat_tests, same_test) in
            slot_stays o n cmds aborts accepted (ap is_some ending.0) (λ f. not_parked (ap (slot_of pool) (sym same) ∙ (h.slot ∙ f))) k h.stands
        by_number false k = ap slot_as (unnamed_other o n k)

    -- and where it is
    pub ended_parked : slot_of pool task ≡ Parked → Keeps s few x (unnamed n o) (set pool (task - 1) Free) cmds (finmap.remove aborts n) accepted
    ended_parked y =
        record {
          table = length-set pool (task - 1) Free ∙ h.table;
          slot = by_slot (s == task) refl (at s);
          stands = stands_unnamed o n cmds aborts accepted h.stands;
          commands = λ z m f. h.commands z m (was z (request.Command m) f);
          opened = λ m c f. open_one m c (c.smid == task) refl (at c.smid) (h.opened m c f);
          known = h.known;
          aborted = λ m f. aborted_one m f (n == m) (get_removed aborts n m);
          names = λ z m t k f. other_name z m t k (was z (request.Abort m t) f);
        }
      where
        at : (j : ℕ) → slot_of (set pool (task - 1) Free) j ≡ cond (j == task) Free (slot_of pool j)
        at j = let p = in_table pool task Parked y (λ z. cc) in slot_of-set pool task j Free p.0 p.1

        -- what is open was so
        was : (z : ℕ) (r : Request) → slot_of (set pool (task - 1) Free) z ≡ Open r → slot_of pool z ≡ Open r
        was z r f = by_key (z == task) (at z)
          where
            by_key : (b : Bool) → slot_of (set pool (task - 1) Free) z ≡ cond b Free (slot_of pool z) → slot_of pool z ≡ Open r
            by_key true a = let p : Free ≡ Open r = sym a ∙ f in absurd (cc)
            by_key false a = sym a ∙ f

        by_slot : (b : Bool) → (s == task) ≡ b → slot_of (set pool (task - 1) Free) s ≡ cond b Free (slot_of pool s) → slot_of (set pool (task - 1) Free) s ≡ slot_as (unnamed n o)
        by_slot true k a =
            let same : s ≡ task = grind (arith, nat_tests, k) in
            let back : (task == s) ≡ true = grind (arith, nat_tests, same) in
            a ∙ slot_freed o n (sym h.slot ∙ (ap (slot_of pool) same ∙ y)) (sym ending.1 ∙ back)
        by_slot false k a =
            let back : (task == s) ≡ false = grind (arith, nat_tests, k) in
            a ∙ (h.slot ∙ ap slot_as (unnamed_other o n (sym ending.1 ∙ back)))

        open_one : (m : ℕ) (c : Cmd) (d : Bool) → (c.smid == task) ≡ d → slot_of (set pool (task - 1) Free) c.smid ≡ cond d Free (slot_of pool c.smid) → slot_of pool c.smid ≡ Open (request.Command m) → slot_of (set pool (task - 1) Free) c.smid ≡ Open (request.Command m)
        open_one m c true k a f =
            let same : c.smid ≡ task = grind (arith, nat_tests, k) in
            let p : Open (request.Command m) ≡ Parked = sym f ∙ (ap (slot_of pool) same ∙ y) in
            absurd (cc)
        open_one m c false k a f = a ∙ f

    -- the ending one stands beside, before and after
    pub ending_beside : IsBeside s few pool x
    ending_beside =
        let t = h.table in
        let p = in_table pool x (Open (request.Abort n task)) e (λ z. cc) in
        let l = p.0 in
        let i = p.1 in
        record { least = l; most = omega (arith, l, i, t); apart = by_key (s == x) refl; other = ap is_command e }
      where
        by_key : (b : Bool) → (s == x) ≡ b → (s == x) ≡ false
        by_key false k = k
        by_key true k =
            let same : s ≡ x = grind (arith, nat_tests, k) in
            let p : false ≡ true = only_command o (request.Abort n task) (sym h.slot ∙ (ap (slot_of pool) same ∙ e)) in
            absurd (cc)

    pub parked_beside : slot_of pool task ≡ Parked → IsBeside s few (set pool (task - 1) Free) x
    parked_beside y =
        let b = ending_beside in
        let p = in_table pool task Parked y (λ z. cc) in
        record { least = b.least; most = b.most; apart = b.apart; other = by_key (x == task) (slot_of-set pool task x Free p.0 p.1) }
      where
        by_key : (d : Bool) → slot_of (set pool (task - 1) Free) x ≡ cond d Free (slot_of pool x) → is_command (slot_of (set pool (task - 1) Free) x) ≡ false
        by_key true a = ap is_command a
        by_key false a = ap is_command (a ∙ e)

  -- a submission is accepted under the identifier x
  module _ (k x handle : ℕ) (new : finset.contains accepted k ≡ false) (least : least_free class.ScsiIo pool ≡ Some x) (h : Keeps s few 0 o pool cmds aborts accepted) where
    abbrev accepted_cmd : Cmd
    accepted_cmd = record { smid = x; handle = handle }

    free_there : slot_of pool x ≡ Free
    free_there = (least_is class.ScsiIo pool x least).free

    at_accept : (j : ℕ) → slot_of (set pool (x - 1) (Open (request.Command k))) j ≡ cond (j == x) (Open (request.Command k)) (slot_of pool j)
    at_accept j =
        let i = class_within class.ScsiIo x (least_is class.ScsiIo pool x least).inside in
        let t = h.table in
        let l = i.0 in
        let m = i.1 in
        slot_of-set pool x j (Open (request.Command k)) i.0 (omega (arith, t, l, m))

    -- the number isn't open, nor is an abort of it
    not_cmd : is_some (finmap.get cmds k) ≡ true → ⊥
    not_cmd f = let p : true ≡ false = sym (h.known k f) ∙ new in cc

    not_abort : is_some (finmap.get aborts k) ≡ true → ⊥
    not_abort f = let p : true ≡ false = sym (h.aborted k f) ∙ new in cc

    none_of : {X : Type 0} (w : Option X) → (is_some w ≡ true → ⊥) → is_some w ≡ false
    none_of None f = refl
    none_of (Some y) f = absurd (f refl)

    module _ (o2 : Option Holder) (slot2 : slot_of (set pool (x - 1) (Open (request.Command k))) s ≡ slot_as o2) (stands2 : Stands o2 (finmap.insert cmds k accepted_cmd) aborts (finset.insert accepted k))
        (number2 : (m task : ℕ) → is_some (finmap.get aborts m) ≡ true → (task == s) ≡ is_of_number m o → (task == s) ≡ is_of_number m o2) where
      accepts_with : Keeps s few 0 o2 (set pool (x - 1) (Open (request.Command k))) (finmap.insert cmds k accepted_cmd) aborts (finset.insert accepted k)
      accepts_with =
          record {
            table = length-set pool (x - 1) (Open (request.Command k)) ∙ h.table;
            slot = slot2;
            stands = stands2;
            commands = λ z m f. command z m (z == x) refl (at_accept z) f (k == m) refl (get_inserted cmds k accepted_cmd m);
            opened = λ m c f. open_one m c f (k == m) refl (get_inserted cmds k accepted_cmd m) (c.smid == x) refl (at_accept c.smid);
            known = λ m f. known_one m f (k == m) (get_inserted cmds k accepted_cmd m) (contains_inserted accepted k m);
            aborted = λ m f. more m (h.aborted m f) (k == m) (contains_inserted accepted k m);
            names = λ z m task g f. name z m task g (z == x) (at_accept z) f;
          }
        where
          more : (m : ℕ) → finset.contains accepted m ≡ true → (b : Bool) → finset.contains (finset.insert accepted k) m ≡ (b || finset.contains accepted m) → finset.contains (finset.insert accepted k) m ≡ true
          more m f true g = g
          more m f false g = g ∙ f

          command : (z m : ℕ) (b : Bool) → (z == x) ≡ b → slot_of (set pool (x - 1) (Open (request.Command k))) z ≡ cond b (Open (request.Command k)) (slot_of pool z) → slot_of (set pool (x - 1) (Open (request.Command k))) z ≡ Open (request.Command m)
              → (c : Bool) → (k == m) ≡ c → finmap.get (finmap.insert cmds k accepted_cmd) m ≡ cond c (Some accepted_cmd) (finmap.get cmds m) → is_under z (finmap.get (finmap.insert cmds k accepted_cmd) m) ≡ true
          command z m true q a f true t g = let back : (x == z) ≡ true = grind (arith, nat_tests, q) in ap (is_under z) g ∙ back
          command z m true q a f false t g =
              let same : k ≡ m = ap number_in (sym a ∙ f) in
              let p : (k == m) ≡ true = grind (arith, nat_tests, same) in
              let r : false ≡ true = sym t ∙ p in
              absurd (cc)
          command z m false q a f true t g =
              let same : k ≡ m = grind (arith, nat_tests, t) in
              let u = under_some z (finmap.get cmds m) (h.commands z m (sym a ∙ f)) in
              absurd (not_cmd (ap (λ (i : ℕ). is_some (finmap.get cmds i)) same ∙ u))
          command z m false q a f false t g = ap (is_under z) g ∙ h.commands z m (sym a ∙ f)

          open_one : (m : ℕ) (c : Cmd) → finmap.get (finmap.insert cmds k accepted_cmd) m ≡ Some c → (b : Bool) → (k == m) ≡ b → finmap.get (finmap.insert cmds k accepted_cmd) m ≡ cond b (Some accepted_cmd) (finmap.get cmds m)
              → (d : Bool) → (c.smid == x) ≡ d → slot_of (set pool (x - 1) (Open (request.Command k))) c.smid ≡ cond d (Open (request.Command k)) (slot_of pool c.smid) → slot_of (set pool (x - 1) (Open (request.Command k))) c.smid ≡ Open (request.Command m)
          open_one m c f true t g true q a = let same : k ≡ m = grind (arith, nat_tests, t) in a ∙ ap (λ (i : ℕ). Open (request.Command i)) same
          open_one m c f true t g false q a =
              let p : Some accepted_cmd ≡ Some c = sym g ∙ f in
              let y : accepted_cmd ≡ c = cc in
              let z : x ≡ c.smid = ap (λ (w : Cmd). w.smid) y in
              let r : (c.smid == x) ≡ true = grind (arith, nat_tests, z) in
              let v : false ≡ true = sym q ∙ r in
              absurd (cc)
          open_one m c f false t g true q a =
              let same : c.smid ≡ x = grind (arith, nat_tests, q) in
              let p : Open (request.Command m) ≡ Free = sym (h.opened m c (sym g ∙ f)) ∙ (ap (slot_of pool) same ∙ free_there) in
              absurd (cc)
          open_one m c f false t g false q a = a ∙ h.opened m c (sym g ∙ f)

          known_one : (m : ℕ) → is_some (finmap.get (finmap.insert cmds k accepted_cmd) m) ≡ true → (b : Bool) → finmap.get (finmap.insert cmds k accepted_cmd) m ≡ cond b (Some accepted_cmd) (finmap.get cmds m)
              → finset.contains (finset.insert accepted k) m ≡ (b || finset.contains accepted m) → finset.contains (finset.insert accepted k) m ≡ true
          known_one m f true g i = i
          known_one m f false g i = i ∙ h.known m (sym (ap is_some g) ∙ f)

          name : (z m task : ℕ) → (z == 0) ≡ false → (b : Bool) → slot_of (set pool (x - 1) (Open (request.Command k))) z ≡ cond b (Open (request.Command k)) (slot_of pool z) → slot_of (set pool (x - 1) (Open (request.Command k))) z ≡ Open (request.Abort m task)
              → (finmap.get aborts m ≡ Some z) × ((task == s) ≡ is_of_number m o2)
          name z m task g true a f = let p : Open (request.Command k) ≡ Open (request.Abort m task) = sym a ∙ f in let q : true ≡ false = ap is_command p in absurd (cc)
          name z m task g false a f = let u = h.names z m task g (sym a ∙ f) in (u.0, number2 m task (ap is_some u.0) u.1)

    -- it is this identifier
    pub accepts_this : (x == s) ≡ true → Keeps s few 0 (new_holder k) (set pool (x - 1) (Open (request.Command k))) (finmap.insert cmds k accepted_cmd) aborts (finset.insert accepted k)
    accepts_this e =
        let same : x ≡ s = grind (arith, nat_tests, e) in
        let back : (s == x) ≡ true = grind (arith, nat_tests, same) in
        let key : (k == k) ≡ true = grind (arith, nat_tests) in
        let g = get_inserted cmds k accepted_cmd k in
        let i = contains_inserted accepted k k in
        accepts_with (new_holder k) (at_accept s ∙ ap (λ (b : Bool). cond b (Open (request.Command k)) (slot_of pool s)) back) (
          sym (ap is_some (g ∙ ap (λ (b : Bool). cond b (Some accepted_cmd) (finmap.get cmds k)) key)),
          sym (none_of (finmap.get aborts k) not_abort),
          i ∙ ap (λ (b : Bool). b || finset.contains accepted k) key,
        )
        (λ m task w u. (u ∙ free_named o m cmds aborts accepted (sym h.slot ∙ (ap (slot_of pool) (sym same) ∙ free_there)) w h.stands) ∙ sym (apart m w (k == m) refl))
      where
        apart : (m : ℕ) → is_some (finmap.get aborts m) ≡ true → (b : Bool) → (k == m) ≡ b → (k == m) ≡ false
        apart m w false t = t
        apart m w true t = let y : k ≡ m = grind (arith, nat_tests, t) in absurd (not_abort (ap (λ (i : ℕ). is_some (finmap.get aborts i)) y ∙ w))

    -- it is another
    pub accepts_other : (x == s) ≡ false → Keeps s few 0 o (set pool (x - 1) (Open (request.Command k))) (finmap.insert cmds k accepted_cmd) aborts (finset.insert accepted k)
    accepts_other e =
        let back : (s == x) ≡ false = grind (arith, nat_tests, e) in
        accepts_with o (at_accept s ∙ (ap (λ (b : Bool). cond b (Open (request.Command k)) (slot_of pool s)) back ∙ h.slot))
        (stands_accepted o k accepted_cmd cmds aborts accepted (new_apart o k cmds aborts accepted new h.stands) h.stands) (λ m task w u. u)

  -- an abort is asked, under the identifier x
  module _ (n x : ℕ) (cmd : Cmd) (there : finmap.get cmds n ≡ Some cmd) (none : finmap.get aborts n ≡ None) (b : IsBeside s few pool x) (free : slot_of pool x ≡ Free) (h : Keeps s few 0 o pool cmds aborts accepted) where
    -- it names the holder's identifier exactly where it is of the holder's number
    names_holder : (cmd.smid == s) ≡ is_of_number n o
    names_holder = by_keys (cmd.smid == s) refl (is_of_number n o) refl
      where
        by_keys : (c : Bool) → (cmd.smid == s) ≡ c → (d : Bool) → is_of_number n o ≡ d → (cmd.smid == s) ≡ is_of_number n o
        by_keys true k true t = k ∙ sym t
        by_keys false k false t = k ∙ sym t
        by_keys true k false t =
            let same : cmd.smid ≡ s = grind (arith, nat_tests, k) in
            let p : false ≡ true = sym t ∙ of_command o n (sym h.slot ∙ (ap (slot_of pool) (sym same) ∙ h.opened n cmd there)) in
            absurd (cc)
        by_keys false k true t =
            let u : is_under s (finmap.get cmds n) ≡ true = h.commands s n (h.slot ∙ number_open o n cmds aborts accepted (ap is_some there) t h.stands) in
            let p : (cmd.smid == s) ≡ true = sym (ap (is_under s) there) ∙ u in
            let q : false ≡ true = sym k ∙ p in
            absurd (cc)

    abbrev asked_pool : List (Slot Request)
    asked_pool = set pool (x - 1) (Open (request.Abort n cmd.smid))

    pub asks_abort : Keeps s few 0 (named n o) asked_pool cmds (finmap.insert aborts n x) accepted
    asks_abort =
        record {
          table = length-set pool (x - 1) (Open (request.Abort n cmd.smid)) ∙ h.table;
          slot = at s ∙ (ap (λ (c : Bool). cond c (Open (request.Abort n cmd.smid)) (slot_of pool s)) b.apart ∙ (h.slot ∙ slot_named o n cmds aborts accepted (ap is_some there) h.stands));
          stands = stands_named o n x cmds aborts accepted h.stands;
          commands = λ z m f. command z m (z == x) (at z) f;
          opened = λ m c f. open_one m c (c.smid == x) refl (at c.smid) (h.opened m c f);
          known = h.known;
          aborted = λ m f. aborted_one m f (n == m) refl (get_inserted aborts n x m);
          names = λ z m t k f. name z m t k (z == x) refl (at z) f (n == m) refl (get_inserted aborts n x m);
        }
      where
        at : (j : ℕ) → slot_of asked_pool j ≡ cond (j == x) (Open (request.Abort n cmd.smid)) (slot_of pool j)
        at j = let t = h.table in let l = b.least in let m = b.most in slot_of-set pool x j (Open (request.Abort n cmd.smid)) b.least (omega (arith, t, l, m))

        command : (z m : ℕ) (c : Bool) → slot_of asked_pool z ≡ cond c (Open (request.Abort n cmd.smid)) (slot_of pool z) → slot_of asked_pool z ≡ Open (request.Command m) → is_under z (finmap.get cmds m) ≡ true
        command z m true a f = let p : false ≡ true = ap is_command (sym a ∙ f) in absurd (cc)
        command z m false a f = h.commands z m (sym a ∙ f)

        open_one : (m : ℕ) (c : Cmd) (d : Bool) → (c.smid == x) ≡ d → slot_of asked_pool c.smid ≡ cond d (Open (request.Abort n cmd.smid)) (slot_of pool c.smid) → slot_of pool c.smid ≡ Open (request.Command m) → slot_of asked_pool c.smid ≡ Open (request.Command m)
        open_one m c true k a f =
            let same : c.smid ≡ x = grind (arith, nat_tests, k) in
            let p : Open (request.Command m) ≡ Free = sym f ∙ (ap (slot_of pool) same ∙ free) in
            absurd (cc)
        open_one m c false k a f = a ∙ f

        aborted_one : (m : ℕ) → is_some (finmap.get (finmap.insert aborts n x) m) ≡ true → (c : Bool) → (n == m) ≡ c → finmap.get (finmap.insert aborts n x) m ≡ cond c (Some x) (finmap.get aborts m) → finset.contains accepted m ≡ true
        aborted_one m f true t g = let same : n ≡ m = grind (arith, nat_tests, t) in ap (finset.contains accepted) (sym same) ∙ h.known n (ap is_some there)
        aborted_one m f false t g = h.aborted m (sym (ap is_some g) ∙ f)

        name : (z m t : ℕ) → (z == 0) ≡ false → (c : Bool) → (z == x) ≡ c → slot_of asked_pool z ≡ cond c (Open (request.Abort n cmd.smid)) (slot_of pool z) → slot_of asked_pool z ≡ Open (request.Abort m t)
            → (d : Bool) → (n == m) ≡ d → finmap.get (finmap.insert aborts n x) m ≡ cond d (Some x) (finmap.get aborts m) → (finmap.get (finmap.insert aborts n x) m ≡ Some z) × ((t == s) ≡ is_of_number m (named n o))
        name z m t k true q a f true r g =
            let p : Open (request.Abort n cmd.smid) ≡ Open (request.Abort m t) = sym a ∙ f in
            let same : z ≡ x = grind (arith, nat_tests, q) in
            let number : n ≡ m = abort_number p in
            let task : cmd.smid ≡ t = abort_task p in
            (g ∙ ap Some (sym same), ap (λ (i : ℕ). i == s) (sym task) ∙ (names_holder ∙ (ap (λ (i : ℕ). is_of_number i o) number ∙ number_named m n o)))
          where
            abort_number : Open (request.Abort n cmd.smid) ≡ Open (request.Abort m t) → n ≡ m
            abort_number p = cc

            abort_task : Open (request.Abort n cmd.smid) ≡ Open (request.Abort m t) → cmd.smid ≡ t
            abort_task p = cc
        name z m t k true q a f false r g =
            let p : Open (request.Abort n cmd.smid) ≡ Open (request.Abort m t) = sym a ∙ f in
            let number : n ≡ m = cc in
            let y : (n == m) ≡ true = grind (arith, nat_tests, number) in
            let v : false ≡ true = sym r ∙ y in
            absurd (cc)
        name z m t k false q a f true r g =
            let same : n ≡ m = grind (arith, nat_tests, r) in
            let u = h.names z m t k (sym a ∙ f) in
            let p : None ≡ Some z = sym none ∙ (ap (finmap.get aborts) same ∙ u.0) in
            absurd (cc)
        name z m t k false q a f false r g = let u = h.names z m t k (sym a ∙ f) in (g ∙ u.0, u.1 ∙ number_named m n o)

-- ---- the first host, and one that has reset

abbrev free_slot : Slot Request
free_slot = Free

free_there_all : (count place : ℕ) → get_or (replicate count free_slot) place Free ≡ Free
free_there_all zero place = refl
free_there_all (suc count) zero = refl
free_there_all (suc count) (suc place) = free_there_all count place

abbrev all_slots : List (Slot Request)
all_slots = all_free

slot_all_free : (x : ℕ) → slot_of all_slots x ≡ Free
slot_all_free zero = refl
slot_all_free (suc i) = free_there_all 280 i

module _ (s : ℕ) (few : s ≤ 256) where
  -- nothing is open, nor has been but what was accepted
  pub renewed : (o : Option Holder) (cmds : Cmds) (aborts : Aborts) (accepted : Numbers) → Stands o cmds aborts accepted → Keeps s few 0 (ended o) all_free finmap.empty finmap.empty accepted
  renewed o cmds aborts accepted st =
      record {
        table = length-replicate {A = Slot Request} 280 Free;
        slot = slot_all_free s ∙ free_ended o;
        stands = stands_ended o st;
        commands = λ x n e. let p : Free ≡ Open (request.Command n) = sym (slot_all_free x) ∙ e in absurd (cc);
        opened = λ n c e. let p : None ≡ Some c = sym (finmap.get-empty {X = Cmd} nat_cmp n) ∙ e in absurd (cc);
        known = λ n e. let p : false ≡ true = sym (ap is_some (finmap.get-empty {X = Cmd} nat_cmp n)) ∙ e in absurd (cc);
        aborted = λ n e. let p : false ≡ true = sym (ap is_some (finmap.get-empty {X = ℕ} nat_cmp n)) ∙ e in absurd (cc);
        names = λ x n task k e. let p : Free ≡ Open (request.Abort n task) = sym (slot_all_free x) ∙ e in absurd (cc);
      }
    where
      free_ended : (o : Option Holder) → Free ≡ slot_as (ended o)
      free_ended None = refl
      free_ended (Some h) = refl

      stands_ended : (o : Option Holder) → Stands o cmds aborts accepted → Stands (ended o) finmap.empty finmap.empty accepted
      stands_ended None st = tt
      stands_ended (Some h) st = (sym (ap is_some (finmap.get-empty {X = Cmd} nat_cmp h.number)), sym (ap is_some (finmap.get-empty {X = ℕ} nat_cmp h.number)), st.2)
