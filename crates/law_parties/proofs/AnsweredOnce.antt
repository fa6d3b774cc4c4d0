-- Each number is accepted once and answered once, and at the end of a reset each that was accepted was answered.
use Rattle.std.proofs.Common.{◌≡◌, ℕ, ◌+◌, ◌≤◌, Bool, true, false, ◌&&◌, cond, List, [], ◌∷◌, ◌++◌, refl, ap, sym, subst, arith}
use Rattle.std.specs.Prelude.{count_by, not, ◌||◌}
use Rattle.std.specs.FinSet as finset
use Rattle.std.specs.List.{list_any}
use Rattle.std.specs.Ordering.{nat_cmp}
use Rattle.std.proofs.lemmas.List.Elements.{All-head, All-tail}
use Rattle.std.proofs.lemmas.List.Sums.{sum_by-cons}
use Rattle.mpt_trace.specs.declared.entry.Entry.{Entry}
use Rattle.mpt_trace.specs.declared.entry.Entry.TheVariants as entry
use Rattle.mpt_trace.specs.declared.parties.Party.TheVariants as party
use Rattle.mpt_wire.specs.Walks.Passes.{EachEntry, Passes, state_after}
use Rattle.mpt_wire.proofs.Passing.{passes_append, state_after-append}
use Rattle.smid_pool.specs.Pool.{Free, Open, Parked, Slot, is_open}
use Rattle.mpt_rules.specs.declared.request.Request.{Request}
use Rattle.mpt_rules.specs.Fabric.Calls.{fabric_quiet}
use Rattle.mpt_rules.specs.Host.Parts.{Host}
use Rattle.mpt_rules.specs.Host.Takes.{host_waits}
use Rattle.mpt_rules.specs.Law.{AllAreAnswered, AnsweredAtMostOnce, QuietIsAnswered, is_accept, is_answer}
use Rattle.mpt_rules.specs.Ioc.Places.{ioc_quiet, is_empty}
use Rattle.mpt_rules.specs.Outcome.{Happening}
use Rattle.mpt_rules.specs.Session.OpenCases.{host_does}
use Rattle.mpt_rules.specs.World.Cases.{Case, case_of, entries, happens, run, trace}
use Rattle.mpt_rules.specs.World.Counts.{how_many, one_if}
use Rattle.mpt_rules.specs.World.Drain.{lanes_empty, world_quiet}
use Rattle.mpt_rules.specs.World.Settings.{Setting, first_world}
use Rattle.mpt_rules.specs.World.State.{World}
use Rattle.law_parties.proofs.Numbers.{all_are_free, is_for, slots_for}
use Rattle.law_parties.proofs.Tallies.{Counts, HasTally, IsBy, Tally, TallyAsks, all_by, tally_next}
use Rattle.law_parties.proofs.TallyCases.{host_counts}
use Rattle.law_parties.proofs.OfParty.{Idles, OfFabric, OfHost, OfIoc, OfParty, of_party}
use Rattle.law_parties.proofs.Owned.{AreOwned, IsOwned, fabric_owned, ioc_owned}

module _ (n : ℕ) where
  module _ (g : Tally) where
    -- ---- every world

    world_counts : (w : World) (o : Happening World) → OfParty w o → HasTally n g w.host → Counts n g o.entries o.part.host
    world_counts w o (Idles c same is) h =
        subst (λ (es : List Entry). Counts n g es o.part.host) (sym is) (all_by n g (entry.Idle c ∷ []) o.part.host (tt, tt) (subst (λ (v : World). HasTally n g v.host) (sym same) h))
    world_counts w o (OfHost c host ioc is) h =
        subst (λ (es : List Entry). Counts n g es o.part.host) (sym is) (subst (Counts n g (host_does w.host c).entries) (sym host) (host_counts n g w.host c h))
    world_counts w o (OfIoc c host ioc is) h =
        subst (λ (es : List Entry). Counts n g es o.part.host) (sym is) (all_by n g _ o.part.host (ioc_by _ (ioc_owned w.ioc c)) (subst (HasTally n g) (sym host) h))
      where
        ioc_by : (es : List Entry) → AreOwned party.Ioc es → EachEntry IsBy es
        ioc_by [] own = tt
        ioc_by (e ∷ es) own = (by_ioc e (All-head (IsOwned party.Ioc) e es own), ioc_by es (All-tail (IsOwned party.Ioc) e es own))
          where
            by_ioc : (e : Entry) → IsOwned party.Ioc e → IsBy e
            by_ioc (entry.Accept k address smid) x = absurd (cc)
            by_ioc (entry.Answer k how) x = absurd (cc)
            by_ioc entry.ResetDone x = absurd (cc)
            by_ioc _ x = tt
    world_counts w o (OfFabric c host ioc is) h =
        subst (λ (es : List Entry). Counts n g es o.part.host) (sym is) (all_by n g _ o.part.host (fabric_by _ (fabric_owned w.fabric c)) (subst (HasTally n g) (sym host) h))
      where
        fabric_by : (es : List Entry) → AreOwned party.Fabric es → EachEntry IsBy es
        fabric_by [] own = tt
        fabric_by (e ∷ es) own = (by_fabric e (All-head (IsOwned party.Fabric) e es own), fabric_by es (All-tail (IsOwned party.Fabric) e es own))
          where
            by_fabric : (e : Entry) → IsOwned party.Fabric e → IsBy e
            by_fabric (entry.Accept k address smid) x = absurd (cc)
            by_fabric (entry.Answer k how) x = absurd (cc)
            by_fabric entry.ResetDone x = absurd (cc)
            by_fabric _ x = tt

  all_counts : (g : Tally) (w : World) (cases : List Case) → HasTally n g w.host → Counts n g (trace w cases) (run w cases).host
  all_counts g w [] h = record { passes = tt; tied = h }
  all_counts g w (c ∷ cases) h =
      let o = world_counts g w (case_of w c) (of_party w c) h in
      let rest = all_counts (state_after (tally_next n) g (entries w c)) (happens w c) cases o.tied in
      record {
        passes = passes_append (tally_next n) (TallyAsks n) g (entries w c) (trace (happens w c) cases) o.passes rest.passes;
        tied = subst (λ (r : Tally). HasTally n r (run (happens w c) cases).host) (sym (state_after-append (tally_next n) g (entries w c) (trace (happens w c) cases))) rest.tied;
      }

  -- ---- the tally is the counts

  abbrev pub none_yet : Tally
  none_yet = record { accepts = 0; answers = 0 }

  pub accepts_counted : (g : Tally) (t : List Entry) → (state_after (tally_next n) g t).accepts ≡ g.accepts + count_by (is_accept n) t
  accepts_counted g [] = omega arith
  accepts_counted g (e ∷ t) = by_entry e (accepts_counted (tally_next n g e) t) (sum_by-cons (λ (x : Entry). cond (is_accept n x) 1 0) e t)
    where
      by_entry : (e : Entry) → (state_after (tally_next n) (tally_next n g e) t).accepts ≡ (tally_next n g e).accepts + count_by (is_accept n) t → count_by (is_accept n) (e ∷ t) ≡ cond (is_accept n e) 1 0 + count_by (is_accept n) t
          → (state_after (tally_next n) (tally_next n g e) t).accepts ≡ g.accepts + count_by (is_accept n) (e ∷ t)
      by_entry (entry.Accept k address smid) ih c = omega (arith, ih, c)
      by_entry _ ih c = omega (arith, ih, c)

  pub answers_counted : (g : Tally) (t : List Entry) → (state_after (tally_next n) g t).answers ≡ g.answers + count_by (is_answer n) t
  answers_counted g [] = omega arith
  answers_counted g (e ∷ t) = by_entry e (answers_counted (tally_next n g e) t) (sum_by-cons (λ (x : Entry). cond (is_answer n x) 1 0) e t)
    where
      by_entry : (e : Entry) → (state_after (tally_next n) (tally_next n g e) t).answers ≡ (tally_next n g e).answers + count_by (is_answer n) t → count_by (is_answer n) (e ∷ t) ≡ cond (is_answer n e) 1 0 + count_by (is_answer n) t
          → (state_after (tally_next n) (tally_next n g e) t).answers ≡ g.answers + count_by (is_answer n) (e ∷ t)
      by_entry (entry.Answer k how) ih c = omega (arith, ih, c)
      by_entry _ ih c = omega (arith, ih, c)

  pub behind : (g : Tally) (t u : List Entry) → Passes (tally_next n) (TallyAsks n) g (t ++ u) → Passes (tally_next n) (TallyAsks n) (state_after (tally_next n) g t) u
  behind g [] u p = p
  behind g (e ∷ t) u p = behind (tally_next n g e) t u p.1

  -- ---- the law of a number

  pub of_number : (s : Setting) (cases : List Case) → Counts n none_yet (trace (first_world s) cases) (run (first_world s) cases).host
  of_number s cases = all_counts none_yet (first_world s) cases (all_are_free n 0 0 finset.empty (sym (ap one_if (finset.contains-empty nat_cmp n))) refl)

pub at_most_one : (b : Bool) → one_if b ≤ 1
at_most_one true = omega arith
at_most_one false = omega arith

pub answered_law : (s : Setting) (cases : List Case) → AnsweredAtMostOnce s (trace (first_world s) cases)
answered_law s cases =
    record {
      accepted = λ n.
          let c = (of_number n s cases).tied.accepts in
          let a = accepts_counted n (none_yet n) (trace (first_world s) cases) in
          let m = at_most_one (finset.contains (run (first_world s) cases).host.accepted n) in
          omega (arith, a, c, m);
      answered = λ n.
          let c = (of_number n s cases).tied.accepts in
          let d = (of_number n s cases).tied.answers in
          let b = answers_counted n (none_yet n) (trace (first_world s) cases) in
          let m = at_most_one (finset.contains (run (first_world s) cases).host.accepted n) in
          omega (arith, b, c, d, m);
      at_reset = λ before after is n.
          let p = behind n (none_yet n) before (entry.ResetDone ∷ after) (subst (λ (t : List Entry). Passes (tally_next n) (TallyAsks n) (none_yet n) t) is (of_number n s cases).passes) in
          let a = accepts_counted n (none_yet n) before in
          let b = answers_counted n (none_yet n) before in
          let e = p.0 in
          omega (arith, a, b, e);
    }

-- ---- where all is quiet

none_open : (n : ℕ) (pool : List (Slot Request)) → list_any is_open pool ≡ false → slots_for n pool ≡ 0
unfolding how_many
none_open n [] e = refl
none_open n (x ∷ xs) e = by_slot x e (none_open n xs)
  where
    by_slot : (x : Slot Request) → (is_open x || list_any is_open xs) ≡ false → (list_any is_open xs ≡ false → slots_for n xs ≡ 0) → one_if (is_for n x) + slots_for n xs ≡ 0
    by_slot Free t ih = let z = ih t in omega (arith, z)
    by_slot Parked t ih = let z = ih t in omega (arith, z)
    by_slot (Open r) t ih = absurd (cc)

waits_none : (host : Host) → host_waits host ≡ false → list_any is_open host.pool ≡ false
waits_none host e = by_tests host.reading (list_any is_open host.pool) _ e
  where
    by_tests : (a b c : Bool) → (a || (b || c)) ≡ false → b ≡ false
    by_tests true b c t = absurd (cc)
    by_tests false true c t = absurd (cc)
    by_tests false false c t = refl

quiet_waits : (w : World) → world_quiet w ≡ true → host_waits w.host ≡ false
quiet_waits w e = by_tests (lanes_empty w && is_empty w.host.out) (host_waits w.host) (ioc_quiet w.ioc) (fabric_quiet w.fabric) e
  where
    by_tests : (a b c d : Bool) → (a && not b && c && d) ≡ true → b ≡ false
    by_tests false b c d t = absurd (cc)
    by_tests true true c d t = absurd (cc)
    by_tests true false c d t = refl

-- a host that waits for nothing has answered all
pub waits_answered : (s : Setting) (cases : List Case) → host_waits (run (first_world s) cases).host ≡ false → AllAreAnswered (trace (first_world s) cases)
waits_answered s cases waits n =
    let t = trace (first_world s) cases in
    let has = (of_number n s cases).tied in
    let held = has.held in
    let answers = has.answers in
    let none = none_open n (run (first_world s) cases).host.pool (waits_none (run (first_world s) cases).host waits) in
    let a = accepts_counted n (none_yet n) t in
    let b = answers_counted n (none_yet n) t in
    omega (arith, a, b, held, answers, none)

pub quiet_law : (s : Setting) (cases : List Case) → QuietIsAnswered s cases
quiet_law s cases quiet = waits_answered s cases (quiet_waits (run (first_world s) cases) quiet)
