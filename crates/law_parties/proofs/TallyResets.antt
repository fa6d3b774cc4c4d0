-- The end of a reset answers each open number once.
use Rattle.std.proofs.Common.{◌≡◌, ℕ, ◌+◌, ◌==◌, Bool, true, false, ◌&&◌, if◌then◌else◌, List, [], ◌∷◌, ◌++◌, map, filter_map, is_some, refl, ap, sym, subst, ◌∙◌, arith}
use Rattle.std.specs.Prelude.{T, ◌||◌}
use Rattle.std.specs.FinMap as finmap
use Rattle.std.specs.FinMap.Entries.{below_all}
use Rattle.std.specs.List.{list_any}
use Rattle.std.specs.Ordering.{eq_by_cmp, is_lt, nat_cmp}
use Rattle.std.proofs.lemmas.Bool.Decides.{nat_tests}
use Rattle.mpt_messages.specs.declared.host_ask.HostAsk.TheVariants as ask
use Rattle.mpt_trace.specs.declared.entry.Entry.{Entry}
use Rattle.mpt_trace.specs.declared.entry.Entry.TheVariants as entry
use Rattle.mpt_wire.specs.Walks.Passes.{EachEntry}
use Rattle.smid_pool.specs.Pool.{Free, Open, Parked, Slot}
use Rattle.mpt_rules.specs.declared.request.Request.{Request}
use Rattle.mpt_rules.specs.declared.request.Request.TheVariants as request
use Rattle.mpt_rules.specs.declared.stage.Stage.TheVariants as stage
use Rattle.mpt_rules.specs.Host.Doorbell as door
use Rattle.mpt_rules.specs.Host.Parts.{Cmd, Host}
use Rattle.mpt_rules.specs.Host.Resets as resets
use Rattle.mpt_rules.specs.World.Counts.{how_many, one_if}
use Rattle.law_parties.proofs.Numbers.{Numbers, all_are_free, begun_handshake}
use Rattle.law_parties.proofs.Tallies.{Counts, HasTally, IsBy, Tally, by_before}
use Rattle.law_parties.proofs.TallyReplies.{CountsTo}

module _ (n : ℕ) where
  -- ---- the end of a reset

  key_apart : (k : ℕ) → is_lt (nat_cmp n k) ≡ true → (k == n) ≡ false
  key_apart k t = grind (arith, nat_tests, t)

  both_true : (b c : Bool) → T (b && c) → (b ≡ true) × T c
  both_true true c t = (refl, t)
  both_true false c t = absurd t

  none_below : (es : List (ℕ × Cmd)) → T (below_all nat_cmp n es) → how_many (λ (k : ℕ). k == n) (map (λ (e : ℕ × Cmd). e.0) es) ≡ 0
  unfolding how_many
  none_below [] t = refl
  none_below (e ∷ es) t =
      let b = both_true (is_lt (nat_cmp n e.0)) (below_all nat_cmp n es) t in
      let ih = none_below es b.1 in
      let z = ap one_if (key_apart e.0 b.0) in
      omega (arith, ih, z)

  sorted_once : (es : List (ℕ × Cmd)) → T (finmap.is_sorted nat_cmp es) → how_many (λ (k : ℕ). k == n) (map (λ (e : ℕ × Cmd). e.0) es) ≡ one_if (list_any (eq_by_cmp nat_cmp n) (map (λ (e : ℕ × Cmd). e.0) es))
  unfolding how_many
  sorted_once [] t = refl
  sorted_once (e ∷ es) t = by_key (e.0 == n) refl (both_of (below_all nat_cmp e.0 es) (finmap.is_sorted nat_cmp es) t) (λ z. sorted_once es z)
    where
      both_of : (b c : Bool) → T (b && c) → T b × T c
      both_of true c t = (tt, t)
      both_of false c t = absurd t

      by_key : (b : Bool) → (e.0 == n) ≡ b → T (below_all nat_cmp e.0 es) × T (finmap.is_sorted nat_cmp es)
          → (T (finmap.is_sorted nat_cmp es) → how_many (λ (k : ℕ). k == n) (map (λ (x : ℕ × Cmd). x.0) es) ≡ one_if (list_any (eq_by_cmp nat_cmp n) (map (λ (x : ℕ × Cmd). x.0) es)))
          → one_if (e.0 == n) + how_many (λ (k : ℕ). k == n) (map (λ (x : ℕ × Cmd). x.0) es) ≡ one_if (eq_by_cmp nat_cmp n e.0 || list_any (eq_by_cmp nat_cmp n) (map (λ (x : ℕ × Cmd). x.0) es))
      by_key true k t ih =
          let same : e.0 ≡ n = grind (arith, nat_tests, k) in
          let none = none_below es (subst (λ (q : ℕ). T (below_all nat_cmp q es)) same t.0) in
          let is : eq_by_cmp nat_cmp n e.0 ≡ true = grind (arith, same) in
          let z = ap one_if k in
          rw is (omega (arith, none, z))
      by_key false k t ih =
          let is : eq_by_cmp nat_cmp n e.0 ≡ false = grind (arith, nat_tests, k) in
          let h = ih t.1 in
          let z = ap one_if k in
          rw is (omega (arith, h, z))

  keys_once : (m : finmap.FinMap nat_cmp Cmd) → how_many (λ (k : ℕ). k == n) (finmap.keys m) ≡ one_if (is_some (finmap.get m n))
  keys_once m = sorted_once (finmap.entries m) (finmap.entries_sorted m) ∙ ap one_if (sym (finmap.contains_key-keys m n))

  -- the open numbers are answered
  answers_before : (ks : List ℕ) (g : Tally) (m : ℕ) (es : List Entry) (host : Host) → m ≡ g.answers + how_many (λ (k : ℕ). k == n) ks → Counts n (record g { answers = m }) es host → Counts n g (map resets.reset_answer ks ++ es) host
  unfolding how_many
  answers_before [] g m es host e c = subst (λ (x : ℕ). Counts n (record g { answers = x }) es host) (let z : m ≡ g.answers = omega (arith, e) in z) c
  answers_before (k ∷ ks) g m es host e c =
      let r = answers_before ks (record g { answers = g.answers + one_if (k == n) }) m es host (omega (arith, e)) c in
      record { passes = (tt, r.passes); tied = r.tied }

  all_before : (t : List Entry) (g : Tally) (es : List Entry) (host : Host) → EachEntry IsBy t → Counts n g es host → Counts n g (t ++ es) host
  all_before [] g es host b c = c
  all_before (e ∷ t) g es host b c = by_before n g e (t ++ es) host b.0 (all_before t g es host b.1 c)

  by_each : (f : ℕ → Entry) → ((k : ℕ) → IsBy (f k)) → (ks : List ℕ) → EachEntry IsBy (map f ks)
  by_each f h [] = tt
  by_each f h (k ∷ ks) = (h k, by_each f h ks)

  targets_by : (xs : List (Slot Request)) → EachEntry IsBy (filter_map resets.reset_target xs)
  targets_by [] = tt
  targets_by (Free ∷ xs) = targets_by xs
  targets_by (Parked ∷ xs) = targets_by xs
  targets_by (Open (request.TargetReset address) ∷ xs) = (tt, targets_by xs)
  targets_by (Open (request.Command k) ∷ xs) = targets_by xs
  targets_by (Open (request.Abort k task) ∷ xs) = targets_by xs
  targets_by (Open (request.Leave handle) ∷ xs) = targets_by xs
  targets_by (Open (request.Page handle) ∷ xs) = targets_by xs
  targets_by (Open (request.Remove handle) ∷ xs) = targets_by xs
  targets_by (Open (request.Ack event context) ∷ xs) = targets_by xs
  targets_by (Open request.Notification ∷ xs) = targets_by xs
  targets_by (Open request.PortEnable ∷ xs) = targets_by xs

  module _ (g : Tally) where
    reset_counts : (host : Host) → HasTally n g host → CountsTo n g (resets.ends_reset host)
    reset_counts host h =
        let answers = h.answers in
        let once = keys_once host.cmds in
        let m : ℕ = g.answers + how_many (λ (k : ℕ). k == n) (finmap.keys host.cmds) in
        let even : g.accepts ≡ m = omega (arith, answers, once) in
        let after : Host = door.begins_facts (resets.renewed host) in
        let renewed : Numbers n g.accepts m after = begun_handshake n g.accepts m (resets.renewed host) stage.Facts ask.Facts (all_are_free n g.accepts m host.accepted h.accepts even) in
        answers_before (finmap.keys host.cmds) g m (map resets.reset_abort (finmap.keys host.aborts) ++ (filter_map resets.reset_target host.pool ++ entry.ResetDone ∷ [])) after refl
        (all_before (map resets.reset_abort (finmap.keys host.aborts)) (record g { answers = m }) (filter_map resets.reset_target host.pool ++ entry.ResetDone ∷ []) after (by_each resets.reset_abort (λ k. tt) (finmap.keys host.aborts))
        (all_before (filter_map resets.reset_target host.pool) (record g { answers = m }) (entry.ResetDone ∷ []) after (targets_by host.pool) (record { passes = (even, tt); tied = renewed })))

    pub over_counts : (host : Host) → HasTally n g host → CountsTo n g (resets.ends_reset_if_over host)
    over_counts host h = by_end (host.door_ready && resets.has_all_marks host)
      where
        by_end : (b : Bool) → CountsTo n g (if b then resets.ends_reset host else record { part = host; entries = [] })
        by_end true = reset_counts host h
        by_end false = record { passes = tt; tied = h }
