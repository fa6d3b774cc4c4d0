-- The rule of least posts and the view take the same from what was said.
use Rattle.std.proofs.Common.{◌≡◌, List, [], ◌∷◌, ◌++◌, ap}
use Rattle.mpt_trace.specs.declared.entry.Entry.{Entry}
use Rattle.mpt_wire.specs.Machine.SoFar.{so_far_next}
use Rattle.mpt_wire.specs.Machine.View.{Seen, seen_next}
use Rattle.mpt_wire.specs.Queues.LeastPosts.{Giving, giving_next}
use Rattle.mpt_wire.specs.Walks.Ahead.{next_own, state_ahead}
use Rattle.law_facts.specs.History.{History, history_after}

same_words : (g : Giving) (s : Seen) (t later : List Entry) → g.so_far ≡ s.so_far → (state_ahead giving_next g t later).so_far ≡ (state_ahead seen_next s t later).so_far
same_words g s [] later e = e
same_words g s (x ∷ t) later e = same_words (giving_next g x (next_own x (t ++ later))) (seen_next s x (next_own x (t ++ later))) t later (ap (λ y. so_far_next y x (next_own x (t ++ later))) e)

pub so_far_kept : (h : History) (t : List Entry) → h.giving.so_far ≡ h.so_far → (history_after h t).giving.so_far ≡ (history_after h t).so_far
so_far_kept h t e = same_words h.giving (record { machine = h.machine; so_far = h.so_far }) t [] e
