-- A rule that goes over the trace with the last request of each identifier gives that each accept is with the least free one.
use Rattle.std.proofs.Common.{◌≡◌, ℕ, ◌==◌, ◌&&◌, ◌||◌, not, Bool, true, false, if◌then◌else◌, List, [], ◌∷◌, ◌++◌, Option, Some, None, refl, sym, subst, ap, ◌∙◌, arith}
use Rattle.std.specs.List.{list_any}
use Rattle.mpt_trace.specs.declared.entry.Entry.{Entry}
use Rattle.mpt_trace.specs.declared.entry.Entry.TheVariants as entry
use Rattle.mpt_wire.specs.Walks.Ahead.{next_own, PassesAhead, state_ahead}
use Rattle.mpt_wire.specs.Queues.LeastFree.{is_accept_with, is_request_end, is_abort_begin, is_abort_end, is_aborting, has_still, is_taken, IsLeastFree, LeastAreAccepted, Holder, is_still_held, holder_of, holder_kept, holder_next, holders_next, LeastAsks, no_holders, LeastPass}
use Rattle.mpt_wire.proofs.Ahead.{asked_there, passes_if_asked}

-- the request is open, or named by an open abort, after the entries p
abbrev in_use : Option Holder → List Entry → List Entry → Bool
in_use None p later = false
in_use (Some h) p later = (h.is_open && not (list_any (is_request_end h.number) p)) || ((h.has_abort && not (list_any (is_abort_end h.number) p)) || is_aborting h.number p later)

holder_after : ℕ → Option Holder → List Entry → List Entry → Option Holder
holder_after s o [] later = o
holder_after s o (e ∷ p) later = holder_after s (holder_next s o e (next_own e (p ++ later))) p later

at_end : (o a : Bool) → (o || a) ≡ ((o && not false) || ((a && not false) || false))
at_end true true = refl
at_end true false = refl
at_end false true = refl
at_end false false = refl

held_at_end : (o : Option Holder) (later : List Entry) → is_still_held o ≡ in_use o [] later
unfolding is_aborting
held_at_end None later = refl
held_at_end (Some h) later = at_end h.is_open h.has_abort

one_entry : (o x y a u b v c : Bool) → (((o && not x) && not y) || ((((a && not u) || b) && not v) || c)) ≡ ((o && not (x || y)) || ((a && not (u || v)) || (c || (b && not v))))
one_entry o x y a u b v c = grind arith

kept_in_use : (o : Option Holder) (e : Entry) (p later : List Entry) → in_use (holder_kept o e (next_own e (p ++ later))) p later ≡ in_use o (e ∷ p) later
unfolding is_aborting
kept_in_use None e p later = refl
kept_in_use (Some h) e p later = one_entry h.is_open (is_request_end h.number e) (list_any (is_request_end h.number) p) h.has_abort (is_abort_end h.number e) (is_abort_begin h.number e (next_own e (p ++ later))) (list_any (is_abort_end h.number) p) (is_aborting h.number p later)

new_in_use : (s : ℕ) (e : Entry) (p later : List Entry) → is_accept_with s e ≡ true → in_use (holder_of e) p later ≡ has_still s e p later
new_in_use s (entry.Accept n a k) p later h = by_bools (list_any (is_request_end n) p) (list_any (is_abort_end n) p) (is_aborting n p later) (k == s) h
  where
    by_bools : (x v c b : Bool) → b ≡ true → ((true && not x) || ((false && not v) || c)) ≡ (b && (not x || c))
    by_bools x v c b h = grind arith
new_in_use s _ p later h = absurd (cc)

-- what is held after the entries
held_after : (s : ℕ) (o : Option Holder) (p later : List Entry) → is_still_held (holder_after s o p later) ≡ (if list_any (is_accept_with s) p then is_taken s p later else in_use o p later)
unfolding holder_after is_taken
held_after s o [] later = held_at_end o later
held_after s o (e ∷ p) later =
    let ahead = next_own e (p ++ later) in
    held_after s (holder_next s o e ahead) p later ∙ by_tests (is_accept_with s e) refl (list_any (is_accept_with s) p)
  where
    by_tests : (b : Bool) → is_accept_with s e ≡ b → (c : Bool) →
        (if c then is_taken s p later else in_use (if b then holder_of e else holder_kept o e (next_own e (p ++ later))) p later)
        ≡ (if b || c then (if c then is_taken s p later else has_still s e p later) else in_use o (e ∷ p) later)
    by_tests true h true = refl
    by_tests false h true = refl
    by_tests true h false = new_in_use s e p later h
    by_tests false h false = kept_in_use o e p later

never_still : (s : ℕ) (e : Entry) (p later : List Entry) → is_accept_with s e ≡ false → has_still s e p later ≡ false
never_still s (entry.Accept n a k) p later h = ap (λ b. b && (not (list_any (is_request_end n) p) || is_aborting n p later)) h
never_still s _ p later h = refl

taken_so : (s : ℕ) (p later : List Entry) → (if list_any (is_accept_with s) p then is_taken s p later else false) ≡ is_taken s p later
unfolding is_taken
taken_so s [] later = refl
taken_so s (e ∷ p) later = by_tests (is_accept_with s e) refl (list_any (is_accept_with s) p)
  where
    by_tests : (b : Bool) → is_accept_with s e ≡ b → (c : Bool) →
        (if b || c then (if c then is_taken s p later else has_still s e p later) else false) ≡ (if c then is_taken s p later else has_still s e p later)
    by_tests true h c = refl
    by_tests false h true = refl
    by_tests false h false = sym (never_still s e p later h)

state_of_each : (holders : ℕ → Option Holder) (p later : List Entry) (s : ℕ) → state_ahead holders_next holders p later s ≡ holder_after s (holders s) p later
unfolding holder_after
state_of_each holders [] later s = refl
state_of_each holders (e ∷ p) later s = state_of_each (holders_next holders e (next_own e (p ++ later))) p later s

pub held_is_taken : (p later : List Entry) (s : ℕ) → is_still_held (state_ahead holders_next no_holders p later s) ≡ is_taken s p later
held_is_taken p later s = ap is_still_held (state_of_each no_holders p later s) ∙ held_after s None p later ∙ taken_so s p later

pub least_are_accepted : (t : List Entry) → LeastPass t → LeastAreAccepted t
least_are_accepted t h p q n a s split =
    let later = entry.Accept n a s ∷ q in
    let asked : IsLeastFree (λ k. is_still_held (state_ahead holders_next no_holders p later k)) s = asked_there holders_next LeastAsks no_holders p (entry.Accept n a s) q (subst (λ l. PassesAhead holders_next LeastAsks no_holders l) split h) in
    record {
      low = asked.low;
      high = asked.high;
      free = sym (held_is_taken p later s) ∙ asked.free;
      least = λ k from below. sym (held_is_taken p later k) ∙ asked.least k from below;
    }

-- what the plain rule gives of an entry
asks_there : (p : List Entry) (e : Entry) (q : List Entry) (ahead : Option Entry) → ((n a s : ℕ) → e ≡ entry.Accept n a s → IsLeastFree (λ k. is_taken k p (e ∷ q)) s) → LeastAsks (state_ahead holders_next no_holders p (e ∷ q)) e ahead
asks_there p (entry.Accept n a s) q ahead h =
    let later = entry.Accept n a s ∷ q in
    let given : IsLeastFree (λ k. is_taken k p later) s = h n a s refl in
    record {
      low = given.low;
      high = given.high;
      free = held_is_taken p later s ∙ given.free;
      least = λ k from below. held_is_taken p later k ∙ given.least k from below;
    }
asks_there p _ q ahead h = tt

pub least_pass : (t : List Entry) → LeastAreAccepted t → LeastPass t
least_pass t h =
    passes_if_asked holders_next LeastAsks no_holders t (λ p e q split.
    asks_there p e q (next_own e q) (λ n a s is.
    subst (λ (x : Entry). IsLeastFree (λ k. is_taken k p (x ∷ q)) s) (sym is) (h p q n a s (subst (λ (x : Entry). t ≡ p ++ x ∷ q) is split))))
