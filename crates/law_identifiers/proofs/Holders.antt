-- What the rule of least identifiers holds of an identifier s of a SCSI IO, and the host's slot that goes with it.
use Rattle.std.proofs.Common.{◌≡◌, ℕ, ◌==◌, ◌&&◌, ◌||◌, not, Bool, true, false, cond, if◌then◌else◌, List, [], ◌∷◌, ◌++◌, Option, Some, None, is_some, refl, ap, sym, ◌∙◌, arith}
use Rattle.std.specs.FinMap as finmap
use Rattle.std.specs.FinSet as finset
use Rattle.std.specs.Ordering.{eq_by_cmp, nat_cmp}
use Rattle.std.proofs.lemmas.Bool.Decides.{nat_tests}
use Rattle.std.proofs.lemmas.Cmp.{nat_cmp_total}
use Rattle.mpt_trace.specs.declared.entry.Entry.{Entry}
use Rattle.mpt_trace.specs.declared.entry.Entry.TheVariants as entry
use Rattle.mpt_trace.specs.declared.input.Input.TheVariants as input
use Rattle.mpt_trace.specs.declared.outcome.Outcome.{Outcome as Ending}
use Rattle.mpt_trace.specs.declared.outcome.AbortOutcome.{AbortOutcome}
use Rattle.mpt_wire.specs.Machine.Calls.{is_call_refused}
use Rattle.mpt_wire.specs.Machine.Causes.{Abort}
use Rattle.mpt_wire.specs.Queues.LeastFree.{Holder, holder_kept, holder_next, holders_next, is_still_held}
use Rattle.mpt_wire.specs.Walks.Ahead.{next_own, state_ahead}
use Rattle.smid_pool.specs.Pool.{Free, Open, Parked, Slot, is_free}
use Rattle.mpt_rules.specs.declared.request.Request.{Request}
use Rattle.mpt_rules.specs.declared.request.Request.TheVariants as request
use Rattle.mpt_rules.specs.Host.Parts.{Cmd}

-- ---- maps and sets by number

pub get_removed : {X : Type 0} (m : finmap.FinMap nat_cmp X) (k n : ℕ) → finmap.get (finmap.remove m k) n ≡ cond (k == n) None (finmap.get m n)
get_removed m k n =
    let same : eq_by_cmp nat_cmp n k ≡ (k == n) = grind arith in
    finmap.get-remove nat_cmp_total m k n ∙ ap (λ (b : Bool). cond b None (finmap.get m n)) same

pub get_inserted : {X : Type 0} (m : finmap.FinMap nat_cmp X) (k : ℕ) (v : X) (n : ℕ) → finmap.get (finmap.insert m k v) n ≡ cond (k == n) (Some v) (finmap.get m n)
get_inserted m k v n =
    let same : eq_by_cmp nat_cmp n k ≡ (k == n) = grind arith in
    finmap.get-insert nat_cmp_total m k v n ∙ ap (λ (b : Bool). cond b (Some v) (finmap.get m n)) same

pub contains_inserted : (m : finset.FinSet nat_cmp) (k n : ℕ) → finset.contains (finset.insert m k) n ≡ ((k == n) || finset.contains m n)
contains_inserted m k n =
    let same : eq_by_cmp nat_cmp n k ≡ (k == n) = grind arith in
    finset.contains-insert nat_cmp_total m k n ∙ ap (λ (b : Bool). b || finset.contains m n) same

-- ---- slots

abbrev pub is_command : Slot Request → Bool
is_command (Open (request.Command n)) = true
is_command _ = false

-- neither a command nor an abort nor parked
abbrev pub is_plain : Slot Request → Bool
is_plain (Open (request.Command n)) = false
is_plain (Open (request.Abort n task)) = false
is_plain Parked = false
is_plain _ = true

abbrev pub number_in : Slot Request → ℕ
number_in (Open (request.Command n)) = n
number_in _ = 0

-- the slot of an identifier: the command is open, or an open abort names it
abbrev pub slot_by : ℕ → Bool → Bool → Slot Request
slot_by n opened named = if opened then Open (request.Command n) else (if named then Parked else Free)

abbrev pub slot_as : Option Holder → Slot Request
slot_as None = Free
slot_as (Some h) = slot_by h.number h.is_open h.has_abort

abbrev pub is_of_number : ℕ → Option Holder → Bool
is_of_number n None = false
is_of_number n (Some h) = h.number == n

-- the command's record has the identifier
abbrev pub is_under : ℕ → Option Cmd → Bool
is_under x None = false
is_under x (Some c) = c.smid == x

pub under_one : (x z : ℕ) (o : Option Cmd) → is_under x o ≡ true → is_under z o ≡ true → x ≡ z
under_one x z None a b = absurd (cc)
under_one x z (Some c) a b = grind (arith, nat_tests, a, b)

pub under_some : (x : ℕ) (o : Option Cmd) → is_under x o ≡ true → is_some o ≡ true
under_some x None a = absurd (cc)
under_some x (Some c) a = refl

-- an open slot of it is a command's
pub only_command : (o : Option Holder) (r : Request) → slot_as o ≡ Open r → is_command (Open r) ≡ true
only_command None r e = absurd (cc)
only_command (Some h) r e = by_bools h.is_open h.has_abort e
  where
    by_bools : (a b : Bool) → slot_by h.number a b ≡ Open r → is_command (Open r) ≡ true
    by_bools true b e = sym (ap is_command e)
    by_bools false true e = absurd (cc)
    by_bools false false e = absurd (cc)

-- and that command is the holder's
pub of_command : (o : Option Holder) (n : ℕ) → slot_as o ≡ Open (request.Command n) → is_of_number n o ≡ true
of_command None n e = absurd (cc)
of_command (Some h) n e = by_bools h.is_open h.has_abort e
  where
    by_bools : (a b : Bool) → slot_by h.number a b ≡ Open (request.Command n) → (h.number == n) ≡ true
    by_bools true b e = let m : h.number ≡ n = ap number_in e in grind (arith, nat_tests, m)
    by_bools false true e = absurd (cc)
    by_bools false false e = absurd (cc)

-- the identifier is free where nothing holds it
pub held_by : (o : Option Holder) → is_still_held o ≡ not (is_free (slot_as o))
held_by None = refl
held_by (Some h) = by_bools h.is_open h.has_abort
  where
    by_bools : (a b : Bool) → (a || b) ≡ not (is_free (slot_by h.number a b))
    by_bools true b = refl
    by_bools false true = refl
    by_bools false false = refl

-- ---- what an entry makes of the holder

pub and_true : (a : Bool) → (a && true) ≡ a
and_true true = refl
and_true false = refl

pub and_false : (a : Bool) → (a && false) ≡ false
and_false true = refl
and_false false = refl

kept_bool : (a : Bool) → ((a && not false) || false) ≡ a
kept_bool true = refl
kept_bool false = refl

-- with other tests
abbrev with_bools : ℕ → Bool → Bool → Option Holder
with_bools n a b = Some (record { number = n; is_open = a; has_abort = b })

abbrev pub closed : ℕ → Option Holder → Option Holder
closed n None = None
closed n (Some h) = Some (record h { is_open = h.is_open && not (n == h.number) })

abbrev pub unnamed : ℕ → Option Holder → Option Holder
unnamed n None = None
unnamed n (Some h) = Some (record h { has_abort = h.has_abort && not (n == h.number) })

abbrev pub named : ℕ → Option Holder → Option Holder
named n None = None
named n (Some h) = Some (record h { has_abort = h.has_abort || (n == h.number) })

abbrev pub ended : Option Holder → Option Holder
ended None = None
ended (Some h) = Some (record h { is_open = false; has_abort = false })

abbrev pub new_holder : ℕ → Option Holder
new_holder n = Some (record { number = n; is_open = true; has_abort = false })

-- an entry that says nothing of holders
abbrev pub IsSilent : Entry → Type 0
IsSilent (entry.Accept n a x) = ⊥
IsSilent (entry.Answer n how) = ⊥
IsSilent (entry.AbortEnd n how) = ⊥
IsSilent entry.ResetDone = ⊥
IsSilent (entry.Given (input.Abort n)) = ⊥
IsSilent _ = Unit {0}

module _ (s : ℕ) where
  same_holder : (h : Holder) → with_bools h.number (h.is_open && not false) ((h.has_abort && not false) || false) ≡ Some h
  same_holder h = ap (λ (a : Bool). with_bools h.number a ((h.has_abort && not false) || false)) (and_true h.is_open) ∙ ap (λ (b : Bool). with_bools h.number h.is_open b) (kept_bool h.has_abort)

  pub stays : (o : Option Holder) (e : Entry) (ahead : Option Entry) → IsSilent e → holder_next s o e ahead ≡ o
  stays o (entry.Accept n a x) ahead q = absurd q
  stays o (entry.Answer n how) ahead q = absurd q
  stays o (entry.AbortEnd n how) ahead q = absurd q
  stays o entry.ResetDone ahead q = absurd q
  stays o (entry.Given (input.Abort n)) ahead q = absurd q
  stays None _ ahead q = refl
  stays (Some h) _ ahead q = same_holder h

  pub after_answer : (o : Option Holder) (n : ℕ) (how : Ending) (ahead : Option Entry) → holder_next s o (entry.Answer n how) ahead ≡ closed n o
  after_answer None n how ahead = refl
  after_answer (Some h) n how ahead = ap (λ (b : Bool). with_bools h.number (h.is_open && not (n == h.number)) b) (kept_bool h.has_abort)

  pub after_abort : (o : Option Holder) (n : ℕ) (how : AbortOutcome) (ahead : Option Entry) → holder_next s o (entry.AbortEnd n how) ahead ≡ unnamed n o
  after_abort None n how ahead = refl
  after_abort (Some h) n how ahead =
      ap (λ (a : Bool). with_bools h.number a ((h.has_abort && not (n == h.number)) || false)) (and_true h.is_open)
      ∙ ap (λ (b : Bool). with_bools h.number h.is_open b) (or_false (h.has_abort && not (n == h.number)))
    where
      or_false : (b : Bool) → (b || false) ≡ b
      or_false true = refl
      or_false false = refl

  pub after_reset : (o : Option Holder) (ahead : Option Entry) → holder_next s o entry.ResetDone ahead ≡ ended o
  after_reset None ahead = refl
  after_reset (Some h) ahead =
      ap (λ (a : Bool). with_bools h.number a ((h.has_abort && not true) || false)) (and_false h.is_open) ∙ ap (λ (b : Bool). with_bools h.number false (b || false)) (and_false h.has_abort)

  -- an abort that is granted, and one that is refused
  pub after_granted : (o : Option Holder) (n : ℕ) (ahead : Option Entry) → is_call_refused (Abort n) ahead ≡ false → holder_next s o (entry.Given (input.Abort n)) ahead ≡ named n o
  after_granted None n ahead f = refl
  after_granted (Some h) n ahead f =
      ap (λ (a : Bool). with_bools h.number a ((h.has_abort && not false) || (n == h.number && not (is_call_refused (Abort n) ahead)))) (and_true h.is_open)
      ∙ (ap (λ (r : Bool). with_bools h.number h.is_open ((h.has_abort && not false) || (n == h.number && not r))) f
      ∙ ap (λ (b : Bool). with_bools h.number h.is_open b) (by_bools h.has_abort (n == h.number)))
    where
      by_bools : (a b : Bool) → ((a && not false) || (b && not false)) ≡ (a || b)
      by_bools true b = refl
      by_bools false true = refl
      by_bools false false = refl

  pub after_refused : (o : Option Holder) (n : ℕ) (ahead : Option Entry) → is_call_refused (Abort n) ahead ≡ true → holder_next s o (entry.Given (input.Abort n)) ahead ≡ o
  after_refused None n ahead f = refl
  after_refused (Some h) n ahead f =
      ap (λ (a : Bool). with_bools h.number a ((h.has_abort && not false) || (n == h.number && not (is_call_refused (Abort n) ahead)))) (and_true h.is_open)
      ∙ (ap (λ (r : Bool). with_bools h.number h.is_open ((h.has_abort && not false) || (n == h.number && not r))) f
      ∙ ap (λ (b : Bool). with_bools h.number h.is_open b) (by_bools h.has_abort (n == h.number)))
    where
      by_bools : (a b : Bool) → ((a && not false) || (b && not true)) ≡ a
      by_bools true b = refl
      by_bools false true = refl
      by_bools false false = refl

  -- an accept with it, and one with another
  pub after_accept : (o : Option Holder) (n a x : ℕ) (ahead : Option Entry) → (x == s) ≡ true → holder_next s o (entry.Accept n a x) ahead ≡ new_holder n
  after_accept o n a x ahead e = ap (λ (b : Bool). if b then new_holder n else holder_kept o (entry.Accept n a x) ahead) e

  pub after_other_accept : (o : Option Holder) (n a x : ℕ) (ahead : Option Entry) → (x == s) ≡ false → holder_next s o (entry.Accept n a x) ahead ≡ o
  after_other_accept o n a x ahead e = ap (λ (b : Bool). if b then new_holder n else holder_kept o (entry.Accept n a x) ahead) e ∙ by_holder o
    where
      by_holder : (o : Option Holder) → holder_kept o (entry.Accept n a x) ahead ≡ o
      by_holder None = refl
      by_holder (Some h) = same_holder h

  -- ---- over entries

  abbrev pub holder_by : Option Holder → List Entry → List Entry → Option Holder
  holder_by o [] later = o
  holder_by o (e ∷ p) later = holder_by (holder_next s o e (next_own e (p ++ later))) p later

  pub state_by : (holders : ℕ → Option Holder) (p later : List Entry) → state_ahead holders_next holders p later s ≡ holder_by (holders s) p later
  state_by holders [] later = refl
  state_by holders (e ∷ p) later = state_by (holders_next holders e (next_own e (p ++ later))) p later
