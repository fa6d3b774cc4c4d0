-- What is shown of the counts of aborts and target resets.
use Rattle.std.proofs.Common.{◌≡◌, ℕ, zero, suc, ◌+◌, ◌≤◌, ◌||◌, Bool, true, false, List, [], ◌∷◌, get_or, Option, Some, None, is_some, refl, sym, ◌∙◌, arith}
use Rattle.mpi_doorbell.specs.DoorRegisters.{is_fault}
use Rattle.mpi_doorbell.specs.declared.state.IocState.{IocState}
use Rattle.mpi_doorbell.specs.declared.state.IocState.TheVariants as ioc_state
use Rattle.mpt_wire.specs.Paths.TerminationCounts.{Awaited}
use Rattle.mpt_rules.specs.declared.at_fabric.AtFabric.{AtFabric}
use Rattle.mpt_rules.specs.Ioc.Replies.{outbox_of}
use Rattle.mpt_rules.specs.Ioc.Tables.{is_operational, request_at}
use Rattle.mpt_rules.specs.Law.{NothingIsStrange}
use Rattle.mpt_rules.specs.World.Cases.{Case, entries, happens}
use Rattle.mpt_rules.specs.World.Counts.{how_many, one_if}
use Rattle.mpt_rules.specs.World.FabricCounts.{sent_abort_count, sent_reset_count}
use Rattle.mpt_rules.specs.World.Settings.{Setting, first_world}
use Rattle.mpt_rules.specs.World.State.{World}
use Rattle.law_facts.specs.Clock.{is_live}
use Rattle.law_facts.specs.Facts.{Facts}
use Rattle.law_facts.specs.Flights.{OneAtFabric}
use Rattle.law_facts.specs.History.{History, first_history, history_after}
use Rattle.law_facts.specs.Paths.{is_asked_of_fabric, opened}
use Rattle.law_facts.specs.Words.{is_abort, is_bare, is_target_reset, slot}
use Rattle.law_doors.proofs.Whole.{whole_kept}
use Rattle.law_lights.proofs.ClocksKept.{clocks_kept}
use Rattle.law_moves.proofs.Counted.{how_many-cons}
use Rattle.law_messages.specs.Numbers.{AbortsAreAccepted}
use Rattle.law_messages.proofs.Shown.{leads}
use Rattle.law_orders.proofs.Kept.{orders_kept}
use Rattle.law_counts.specs.Counted.{CountsFit, CountsKept, FabricAnswers, ProgressKept, ProgressStands}
use Rattle.law_counts.proofs.FabricAsks.{no_end}
use Rattle.law_counts.proofs.IocAsks.{both_out, none_out}
use Rattle.law_counts.proofs.CountsKept as counts
use Rattle.law_counts.proofs.FitsKept.{fits_kept}
use Rattle.law_counts.proofs.ProgressKept as progress

none_at : (xs : List (Option AtFabric)) (i : ℕ) → how_many is_some xs ≡ 0 → is_some (get_or xs i None) ≡ false
none_at [] i z = refl
none_at (x ∷ xs) zero z = let c = how_many-cons is_some x xs in by_one (is_some x) (omega (arith, c, z))
  where
    by_one : (b : Bool) → one_if b ≡ 0 → b ≡ false
    by_one false z = refl
    by_one true z = absurd (omega (arith, z))
none_at (x ∷ xs) (suc i) z = let c = how_many-cons is_some x xs in none_at xs i (omega (arith, c, z))

bare : (s : IocState) → is_fault s ≡ false → is_operational s ≡ false → is_bare s ≡ true
bare ioc_state.Reset a b = refl
bare ioc_state.Ready a b = refl
bare ioc_state.Operational a b = absurd (cc)
bare (ioc_state.Fault code) a b = absurd (cc)

asked_one : (o : Option AtFabric) → (is_abort o || is_target_reset o) ≡ true → (1 ≤ one_if (is_abort o) + one_if (is_target_reset o)) × (is_some o ≡ true)
asked_one None e = absurd (cc)
asked_one (Some r) e = (by_bools (is_abort (Some r)) (is_target_reset (Some r)) e, refl)
  where
    by_bools : (a b : Bool) → (a || b) ≡ true → 1 ≤ one_if a + one_if b
    by_bools true b e = omega arith
    by_bools false true e = omega arith
    by_bools false false e = absurd (cc)

module _ (w : World) (h : History) (c : Case) (f : Facts w h) (plain : NothingIsStrange w) (accepted : AbortsAreAccepted w) (further : FabricAnswers w h) where
  v : World
  v = happens w c

  k : History
  k = history_after h (entries w c)

  kept : (q : ℕ) → progress.Kept w h f further (happens w c) (history_after h (entries w c)) q
  kept q = progress.progress_kept w h f further plain c (whole_kept w h f plain c) (leads w h c f plain accepted) q

  pub progress_shown : ProgressKept (happens w c) (history_after h (entries w c))
  progress_shown = record { stands = stands; further = λ q. (kept q).answers }
    where
      stands : (q : ℕ) → 257 ≤ q → q ≤ 264 → ProgressStands (happens w c) (history_after h (entries w c)) q
      stands q a b = record { before = (kept q).before a b; awaited = awaited }
        where
          one : OneAtFabric (happens w c) q
          one = orders_kept w h f plain c q (omega (arith, a)) (omega (arith, b))

          live : is_some (request_at (happens w c).ioc q) ≡ true → is_live (happens w c) ≡ true
          live e = by_live (is_live (happens w c)) refl
            where
              at : (q : ℕ) → how_many is_some (happens w c).ioc.requests ≡ 0 → is_some (request_at (happens w c).ioc q) ≡ false
              at zero z = refl
              at (suc i) z = none_at (happens w c).ioc.requests i z

              by_live : (b : Bool) → is_live (happens w c) ≡ b → b ≡ true
              by_live true l = refl
              by_live false l =
                  let t = (clocks_kept w h c f plain).tables_empty (bare (happens w c).ioc.door.state (whole_kept w h f plain c) l) in
                  let z : true ≡ false = sym e ∙ at q t.requests in absurd (cc)

          awaited : is_asked_of_fabric (happens w c) q ≡ true → sent_abort_count q (happens w c).ioc.out + sent_reset_count q (happens w c).ioc.out ≡ 0 → (history_after h (entries w c)).high q ≡ opened Awaited (slot (happens w c).host q)
          awaited e z =
              let o = asked_one (request_at (happens w c).ioc q) e in
              let l = live o.1 in let n = o.0 in
              let x = one.aborts l in let y = one.resets l in
              let t = both_out q (happens w c).out (happens w c).ioc.out in
              (kept q).answers.awaited (omega (arith, x, y, t, z, n))

module _ (w : World) (h : History) (c : Case) (f : Facts w h) (plain : NothingIsStrange w) (accepted : AbortsAreAccepted w) (further : FabricAnswers w h) (fit : CountsFit w) where
  pub counts_shown : CountsKept (happens w c) (history_after h (entries w c))
  counts_shown =
      let a = counts.counts_kept w h f further fit plain c (whole_kept w h f plain c) (λ l. (clocks_kept w h c f plain).no_reply_before_init.outboxes l 0) (leads w h c f plain accepted) in
      record {
        counts = counts.all_counts (happens w c) (history_after h (entries w c)) (outbox_of (happens w c).ioc 0) a;
        kinds = counts.all_kinds (happens w c) (history_after h (entries w c)) (outbox_of (happens w c).ioc 0) a;
        further = fits_kept w h f fit plain c;
      }

pub answers_at_first : (s : Setting) → FabricAnswers (first_world s) (first_history s.disks)
answers_at_first s q =
    let a = none_out q in let b = no_end q in
    record { high = λ c. absurd (omega (arith, a, b, c)); awaited = λ c. absurd (omega (arith, a, b, c)) }
