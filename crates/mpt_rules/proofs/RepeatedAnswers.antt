-- Traces in which a number is accepted or answered too often, or is unanswered at a reset's end.
use Rattle.std.proofs.Common.{◌≡◌, ℕ, ◌≤◌, List, [], ◌∷◌, ◌++◌, refl, arith}
use Rattle.std.proofs.lemmas.Grind.{common_steps}
use Rattle.mpt_trace.specs.declared.outcome.Outcome.TheVariants as outcome
use Rattle.mpt_trace.specs.declared.entry.Entry.{Entry}
use Rattle.mpt_trace.specs.declared.entry.Entry.TheVariants as entry
use Rattle.mpt_rules.specs.Law.{AnsweredAtMostOnce}
use Rattle.mpt_rules.specs.World.Settings.{Setting}

abbrev setting : Setting
setting = record { disks = []; phys = []; queues = 1 }

-- one number, accepted and answered
abbrev answered : List Entry
answered = entry.Accept 1 5 1 ∷ entry.Answer 1 outcome.Gone ∷ []

no_reset : (before after : List Entry) → answered ≡ before ++ entry.ResetDone ∷ after → ⊥
no_reset [] after e = absurd cc
no_reset (x ∷ []) after e = absurd cc
no_reset (x ∷ y ∷ []) after e = absurd cc
no_reset (x ∷ y ∷ z ∷ before) after e = absurd cc

answered_once : AnsweredAtMostOnce setting answered
answered_once = record {
  accepted = λ n. grind (arith, common_steps);
  answered = λ n. grind (arith, common_steps);
  at_reset = λ before after e. absurd (no_reset before after e);
}

two_one : ◌≤◌ 2 1 → ⊥
two_one e = omega arith

one_none : ◌≡◌ {A = ℕ} 1 0 → ⊥
one_none e = omega arith

accepted_twice : AnsweredAtMostOnce setting (entry.Accept 1 5 1 ∷ entry.Accept 1 5 1 ∷ []) → ⊥
accepted_twice p = two_one (p.accepted 1)

answered_twice : AnsweredAtMostOnce setting (entry.Answer 1 outcome.Gone ∷ entry.Answer 1 outcome.Reset ∷ []) → ⊥
answered_twice p = two_one (p.answered 1)

unanswered_at_reset : AnsweredAtMostOnce setting (entry.Accept 1 5 1 ∷ entry.ResetDone ∷ []) → ⊥
unanswered_at_reset p = one_none (p.at_reset (entry.Accept 1 5 1 ∷ []) [] refl 1)
