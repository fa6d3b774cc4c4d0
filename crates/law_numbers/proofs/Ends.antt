-- What the end of a reset leaves of numbers and target resets; values, marks, and inputs.
use Rattle.std.proofs.Common.{◌≡◌, ℕ, zero, suc, ◌+◌, ◌-◌, ◌≤◌, ◌<◌, ◌==◌, ◌&&◌, ◌||◌, not, Bool, true, false, if◌then◌else◌, List, [], ◌∷◌, ◌++◌, length, set, replicate, take, Option, Some, None, is_some, is_none, refl, ap, sym, ◌∙◌, subst, arith}
use Rattle.std.specs.List.{fold, range_with_len}
use Rattle.std.specs.FinMap as finmap
use Rattle.std.specs.FinSet as finset
use Rattle.std.specs.Ordering.{nat_cmp}
use Rattle.std.proofs.lemmas.Bool.{eqb-true}
use Rattle.smid_pool.specs.Pool.{Slot, Free, Open, Parked}
use Rattle.mpt_wire.specs.Machine.State.{Machine, OpenRequest}
use Rattle.mpt_wire.specs.Machine.Steps.{MayAnswer, after_abort_end}
use Rattle.mpt_wire.specs.Machine.View.{Seen, seen_next}
use Rattle.mpt_wire.specs.Walks.Ahead.{next_own, state_ahead}
use Rattle.mpt_wire.specs.Walks.Passes.{EachEntry}
use Rattle.mpt_trace.specs.declared.entry.Entry.{Entry}
use Rattle.mpt_trace.specs.declared.entry.Entry.TheVariants as entry
use Rattle.mpt_trace.specs.declared.outcome.Outcome.{Outcome as Ending}
use Rattle.mpt_trace.specs.declared.outcome.AbortOutcome.{AbortOutcome}
use Rattle.mpt_trace.specs.declared.outcome.AbortOutcome.TheVariants as abort
use Rattle.mpt_rules.specs.declared.request.Request.{Request}
use Rattle.mpt_rules.specs.declared.request.Request.TheVariants as request
use Rattle.mpt_rules.specs.Host.Parts.{Host}
use Rattle.mpt_rules.specs.Host.Resets as resets
use Rattle.mpt_rules.specs.World.Counts.{how_many}
use Rattle.law_facts.specs.Words.{resets_address}
use Rattle.law_moves.proofs.Counted.{how_many-nil}
use Rattle.law_machine.proofs.Counted.{one_more}
use Rattle.law_machine.proofs.Silent.{Passed}
use Rattle.law_disks.proofs.Fits.{inserted_set, no_more, removed_is}
use Rattle.law_disks.specs.Machine.{is_known}
use Rattle.law_numbers.proofs.Agree.{Agrees, Num}

-- ---- the state behind entries that nothing follows

pub behind : Seen → List Entry → Seen
behind g [] = g
behind g (e ∷ t) = behind (seen_next g e (next_own e t)) t

pub behind_is : (g : Seen) (t : List Entry) → state_ahead seen_next g t [] ≡ behind g t
unfolding behind
behind_is g [] = refl
behind_is g (e ∷ t) = ap (λ u. state_ahead seen_next (seen_next g e (next_own e u)) t []) (no_more t) ∙ behind_is (seen_next g e (next_own e t)) t

pub behind_nil : (g : Seen) → behind g [] ≡ g
unfolding behind
behind_nil g = refl

pub behind_cons : (g : Seen) (e : Entry) (t : List Entry) → behind g (e ∷ t) ≡ behind (seen_next g e (next_own e t)) t
unfolding behind
behind_cons g e t = refl

-- ---- what the ends keep

abbrev IsEnd : Entry → Type 0
IsEnd (entry.Answer n how) = Unit {0}
IsEnd (entry.AbortEnd n how) = Unit {0}
IsEnd (entry.TargetEnd a how) = Unit {0}
IsEnd entry.ResetDone = Unit {0}
IsEnd e = ⊥

answered_known : (m : Machine) (n k : ℕ) → is_some (finmap.get m.requests n) ≡ true → is_known (finmap.remove m.requests n) (finset.insert m.closed n) k ≡ is_known m.requests m.closed k
answered_known m n k o = ap (λ b. b || finset.contains (finset.insert m.closed n) k) (removed_is m.requests n k) ∙ (ap (λ b. (not (k == n) && is_some (finmap.get m.requests k)) || b) (inserted_set m.closed n k) ∙ by_key (k == n) refl)
  where
    by_key : (t : Bool) → (k == n) ≡ t → ((not t && is_some (finmap.get m.requests k)) || (t || finset.contains m.closed k)) ≡ (is_some (finmap.get m.requests k) || finset.contains m.closed k)
    by_key true t = sym (ap (λ b. b || finset.contains m.closed k) (subst (λ j. is_some (finmap.get m.requests j) ≡ true) (sym (eqb-true k n t)) o))
    by_key false t = refl

abbrev Keeps : Machine → Machine → ℕ → Type 0
Keeps m o k = (is_known o.requests o.closed k ≡ is_known m.requests m.closed k) × (o.ran ≡ m.ran)

aborted_keeps : (m : Machine) (n k : ℕ) (how : AbortOutcome) → Keeps m (after_abort_end m n how) k
aborted_keeps m n k abort.Stopped = (refl, refl)
aborted_keeps m n k abort.NotFound = (refl, refl)
aborted_keeps m n k abort.Reset = (refl, refl)

there : (o : Option OpenRequest) (m : Machine) (n : ℕ) (how : Ending) → MayAnswer m n o how → is_some o ≡ true
there None m n how l = absurd l
there (Some r) m n how l = refl

end_keeps : (g : Seen) (e : Entry) (ahead : Option Entry) → IsEnd e → Rattle.mpt_wire.specs.Machine.View.SeenAsks g e ahead → (k : ℕ) → Keeps g.machine (seen_next g e ahead).machine k
end_keeps g (entry.Answer n how) ahead d p k = (answered_known g.machine n k (there (finmap.get g.machine.requests n) g.machine n how p.0), refl)
end_keeps g (entry.AbortEnd n how) ahead d p k = aborted_keeps g.machine n k how
end_keeps g (entry.TargetEnd a how) ahead d p k = (refl, refl)
end_keeps g entry.ResetDone ahead d p k = (refl, refl)
end_keeps g (entry.Given i) ahead d p k = absurd d
end_keeps g (entry.Idle x) ahead d p k = absurd d
end_keeps g (entry.Put l x) ahead d p k = absurd d
end_keeps g (entry.Take l x) ahead d p k = absurd d
end_keeps g (entry.Bind h a q) ahead d p k = absurd d
end_keeps g (entry.Unbind h) ahead d p k = absurd d
end_keeps g entry.UnbindAll ahead d p k = absurd d
end_keeps g (entry.Run a q) ahead d p k = absurd d
end_keeps g entry.HostUp ahead d p k = absurd d
end_keeps g (entry.Ready a h) ahead d p k = absurd d
end_keeps g (entry.Lost a h) ahead d p k = absurd d
end_keeps g (entry.Accept n a q) ahead d p k = absurd d
end_keeps g (entry.RefuseSubmit n c) ahead d p k = absurd d
end_keeps g (entry.Refuse call c) ahead d p k = absurd d

ends_keep : (g : Seen) (t : List Entry) → EachEntry IsEnd t → Passed g t → (k : ℕ) → Keeps g.machine (behind g t).machine k
unfolding behind
ends_keep g [] d p k = (refl, refl)
ends_keep g (e ∷ t) d p k =
    let a = end_keeps g e (next_own e t) d.0 p.0 k in
    let b = ends_keep (seen_next g e (next_own e t)) t d.1 p.1 k in
    (b.0 ∙ a.0, b.1 ∙ a.1)

-- nothing is open behind it
pub record IsBare (m : Machine) : Type 0 where
  pub requests : finmap.len m.requests ≡ 0
  pub aborts : finset.len m.aborts ≡ 0
  pub targets : (a : ℕ) → m.resets a ≡ 0

end_bare : (g : Seen) (t : List Entry) → Passed g (t ++ entry.ResetDone ∷ []) → IsBare (behind g (t ++ entry.ResetDone ∷ [])).machine
unfolding behind
end_bare g [] p = let a = (p.0).0 in record { requests = a.1; aborts = a.2; targets = a.3 }
end_bare g (e ∷ t) p = end_bare (seen_next g e (next_own e (t ++ entry.ResetDone ∷ []))) t p.1

-- ---- all that is told of it

is_end_map : (f : ℕ → Entry) → ((n : ℕ) → IsEnd (f n)) → (ns : List ℕ) → (u : List Entry) → EachEntry IsEnd u → EachEntry IsEnd (Rattle.std.specs.Prelude.map f ns ++ u)
is_end_map f h [] u d = d
is_end_map f h (n ∷ ns) u d = (h n, is_end_map f h ns u d)

is_end_targets : (xs : List (Slot Request)) → EachEntry IsEnd (Rattle.std.specs.Prelude.filter_map resets.reset_target xs ++ entry.ResetDone ∷ [])
is_end_targets [] = (tt, tt)
is_end_targets (Free ∷ xs) = is_end_targets xs
is_end_targets (Parked ∷ xs) = is_end_targets xs
is_end_targets (Open (request.Command n) ∷ xs) = is_end_targets xs
is_end_targets (Open (request.Abort n task) ∷ xs) = is_end_targets xs
is_end_targets (Open (request.TargetReset address) ∷ xs) = (tt, is_end_targets xs)
is_end_targets (Open (request.Leave handle) ∷ xs) = is_end_targets xs
is_end_targets (Open (request.Page handle) ∷ xs) = is_end_targets xs
is_end_targets (Open (request.Remove handle) ∷ xs) = is_end_targets xs
is_end_targets (Open (request.Ack event context) ∷ xs) = is_end_targets xs
is_end_targets (Open request.Notification ∷ xs) = is_end_targets xs
is_end_targets (Open request.PortEnable ∷ xs) = is_end_targets xs

told_ends : (k : Host) → EachEntry IsEnd (resets.reset_told k)
told_ends k = is_end_map resets.reset_answer (λ n. tt) (finmap.keys k.cmds) _ (is_end_map resets.reset_abort (λ n. tt) (finmap.keys k.aborts) _ (is_end_targets k.pool))

pub told_splits : (k : Host) → (told : List Entry) × (resets.reset_told k ≡ told ++ entry.ResetDone ∷ [])
told_splits k = (
  Rattle.std.specs.Prelude.map resets.reset_answer (finmap.keys k.cmds) ++ (Rattle.std.specs.Prelude.map resets.reset_abort (finmap.keys k.aborts) ++ Rattle.std.specs.Prelude.filter_map resets.reset_target k.pool),
  sym (Rattle.std.proofs.Common.append_assoc (Rattle.std.specs.Prelude.map resets.reset_answer (finmap.keys k.cmds)) (Rattle.std.specs.Prelude.map resets.reset_abort (finmap.keys k.aborts) ++ Rattle.std.specs.Prelude.filter_map resets.reset_target k.pool) (entry.ResetDone ∷ [])
      ∙ ap (λ v. Rattle.std.specs.Prelude.map resets.reset_answer (finmap.keys k.cmds) ++ v) (Rattle.std.proofs.Common.append_assoc (Rattle.std.specs.Prelude.map resets.reset_abort (finmap.keys k.aborts)) (Rattle.std.specs.Prelude.filter_map resets.reset_target k.pool) (entry.ResetDone ∷ []))),
)

pub told_bare : (k : Host) (g : Seen) → Passed g (resets.reset_told k) → IsBare (behind g (resets.reset_told k)).machine
told_bare k g p = let e = told_splits k in subst (λ u. IsBare (behind g u).machine) (sym e.1) (end_bare g e.0 (subst (Passed g) e.1 p))

none_in : (n a : ℕ) → how_many (resets_address a) (replicate n Free) ≡ 0
none_in zero a = how_many-nil (resets_address a)
none_in (suc n) a = let c = one_more (resets_address a) Free (replicate n Free) in let h = none_in n a in omega (arith, c, h)

pub renewed_agrees : (g : Seen) (k : Host) → Passed g (resets.reset_told k) → Agrees g.machine k → Agrees (behind g (resets.reset_told k)).machine (resets.renewed k)
renewed_agrees g k p s =
    record { numbers = each; targets = λ a. b.targets a ∙ sym (none_in 280 a) }
  where
    b : IsBare (behind g (resets.reset_told k)).machine
    b = told_bare k g p

    m : Machine
    m = (behind g (resets.reset_told k)).machine

    none_open : (n : ℕ) → is_some (finmap.get (behind g (resets.reset_told k)).machine.requests n) ≡ false
    none_open n = ap (λ r. is_some (finmap.get r n)) (finmap.empty_of_len (behind g (resets.reset_told k)).machine.requests b.requests) ∙ ap is_some (finmap.get-empty nat_cmp n)

    none_named : (n : ℕ) → finset.contains (behind g (resets.reset_told k)).machine.aborts n ≡ false
    none_named n = ap (λ r. finset.contains r n) (finset.empty_of_len (behind g (resets.reset_told k)).machine.aborts b.aborts) ∙ finset.contains-empty nat_cmp n

    -- before, what was known was accepted
    known : (n : ℕ) → is_known g.machine.requests g.machine.closed n ≡ finset.contains k.accepted n
    known n = let z = s.numbers n in ap (λ x. x || finset.contains g.machine.closed n) z.opens ∙ (ap (λ x. is_some (finmap.get k.cmds n) || x) z.over ∙ by_cmd (finmap.get k.cmds n) (finset.contains k.accepted n) z.was)
      where
        by_cmd : {X : Type 0} (o : Option X) (a : Bool) → (is_some o ≡ true → a ≡ true) → (is_some o || (a && is_none o)) ≡ a
        by_cmd (Some x) a f = sym (f refl)
        by_cmd None true f = refl
        by_cmd None false f = refl

    each : (n : ℕ) → Num (behind g (resets.reset_told k)).machine.requests (behind g (resets.reset_told k)).machine.aborts (behind g (resets.reset_told k)).machine.closed (behind g (resets.reset_told k)).machine.ran finmap.empty finmap.empty k.accepted n
    each n =
        let e = ends_keep g (resets.reset_told k) (told_ends k) p n in
        let z = s.numbers n in
        record {
          opens = none_open n ∙ sym (ap is_some (finmap.get-empty nat_cmp n));
          abort_is = none_named n ∙ sym (ap is_some (finmap.get-empty nat_cmp n));
          over = sym (ap (λ x. x || finset.contains (behind g (resets.reset_told k)).machine.closed n) (none_open n)) ∙ (e.0 ∙ (known n ∙ sym (ap (λ x. finset.contains k.accepted n && is_none x) (finmap.get-empty nat_cmp n) ∙ and_true (finset.contains k.accepted n))));
          was = λ t. none (ap is_some (finmap.get-empty nat_cmp n)) t;
          unused = λ t. ap (λ r. r n) e.1 ∙ z.unused t;
        }
      where
        and_true : (a : Bool) → (a && true) ≡ a
        and_true true = refl
        and_true false = refl

        none : {T : Type 0} {a : Bool} → a ≡ false → a ≡ true → T
        none e f = let z : false ≡ true = sym e ∙ f in absurd (cc)
