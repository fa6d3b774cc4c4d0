-- One induction over the cases: where what holds of a world lets each case's entries pass, and each case keeps it, the trace of any
-- list of cases passes.
use Rattle.std.proofs.Common.{◌≡◌, ℕ, List, [], ◌∷◌, All, subst}
use Rattle.std.proofs.lemmas.List.Elements.{All-head, All-tail}
use Rattle.mpt_rules.specs.World.Cases.{Case, entries, happens, run, trace}
use Rattle.mpt_rules.specs.World.Settings.{IsCase}
use Rattle.mpt_rules.specs.World.State.{World, queues_of}
use Rattle.law_facts.specs.History.{History, history_after}
use Rattle.law.specs.Passed.{Passed}
use Rattle.law.proofs.Joined.{nothing_passes, passed_joined}
use Rattle.law.proofs.Untold.{traces_open}

-- what was said after a list of cases
abbrev pub history_run : World → History → List Case → History
history_run w h [] = h
history_run w h (c ∷ cs) = history_run (happens w c) (history_after h (entries w c)) cs

module _ (Holds : World → History → Type 0)
    (kept : (w : World) (h : History) (c : Case) → IsCase c → Holds w h → Holds (happens w c) (history_after h (entries w c)))
    (queues : (w : World) (h : History) (c : Case) → Holds w h → queues_of (happens w c) ≡ queues_of w)
    (passes : (w : World) (h : History) (c : Case) → IsCase c → Holds w h → Passed (queues_of w) h (entries w c)) where
  pub holds_after : (w : World) (h : History) (cases : List Case) → All IsCase cases → Holds w h → Holds (run w cases) (history_run w h cases)
  holds_after w h [] allowed holds = holds
  holds_after w h (c ∷ cs) allowed holds = holds_after (happens w c) (history_after h (entries w c)) cs (All-tail IsCase c cs allowed) (kept w h c (All-head IsCase c cs allowed) holds)

  pub trace_passes : (w : World) (h : History) (cases : List Case) → All IsCase cases → Holds w h → Passed (queues_of w) h (trace w cases)
  trace_passes w h [] allowed holds = nothing_passes (queues_of w) h
  trace_passes w h (c ∷ cs) allowed holds =
      let mine : IsCase c = All-head IsCase c cs allowed in
      passed_joined (queues_of w) h (entries w c) (trace (happens w c) cs) (traces_open (happens w c) cs) (passes w h c mine holds)
      (subst (λ (q : ℕ). Passed q (history_after h (entries w c)) (trace (happens w c) cs)) (queues w h c holds)
      (trace_passes (happens w c) (history_after h (entries w c)) cs (All-tail IsCase c cs allowed) (kept w h c mine holds)))
