-- The rule of what aborts stop follows the rule of counts.
use Rattle.std.proofs.Common.{◌≡◌, ℕ, List, [], ◌∷◌, refl, ap, ◌∙◌}
use Rattle.mpt_trace.specs.declared.entry.Entry.{Entry}
use Rattle.mpt_wire.specs.Paths.Stops.{Stopping, stopping_next}
use Rattle.mpt_wire.specs.Paths.TerminationCounts.{high_next}
use Rattle.mpt_wire.specs.Walks.Passes.{state_after}
use Rattle.law_facts.specs.History.{History, history_after}
use Rattle.law_stops.specs.Stops.{HighsAgree}

same_highs : (s q : ℕ) (g : Stopping) (t : List Entry) → (state_after (stopping_next s) g t).highs q ≡ state_after (high_next q) (g.highs q) t
same_highs s q g [] = refl
same_highs s q g (e ∷ t) = same_highs s q (stopping_next s g e) t

pub highs_kept : (h : History) (t : List Entry) → HighsAgree h → HighsAgree (history_after h t)
highs_kept h t a s q = same_highs s q (h.stopping s) t ∙ ap (λ x. state_after (high_next q) x t) (a s q)
