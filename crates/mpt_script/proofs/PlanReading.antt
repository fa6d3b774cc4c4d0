-- Reading a plan line by line.
use Rattle.std.proofs.Common.{◌≡◌, ℕ, ◌==◌, true, false, List, [], ◌∷◌, length, Option, Ok, Err, refl, arith}
use Rattle.std.proofs.lemmas.Grind.{common_steps}
use Rattle.mpt_lines.specs.declared.fault.Cause.{Cause}
use Rattle.mpt_lines.specs.declared.fault.Cause.TheVariants.{Unended}
use Rattle.mpt_script.specs.declared.planning.PlanLine.{PlanLine}
use Rattle.mpt_script.specs.Plans.{after_planned, plan_from, plan_value}
use Rattle.mpt_script.specs.PlanState.{PlanState}
use Rattle.mpt_script.specs.Schedules.{next_number}

-- a line that is not refused
pub planned_said : (number : ℕ) (p : PlanState) (line : List ℕ) (left : List (List ℕ)) (said : Option PlanLine) → (length left == 0) ≡ false → plan_value p line ≡ Ok said
    → plan_from number p (line ∷ left) ≡ plan_from (next_number number) (after_planned p said) left
unfolding plan_from
planned_said number p line [] said more e = cc
planned_said number p line (next ∷ others) said more e = rw e refl

-- a line that is refused
pub planned_refused : (number : ℕ) (p : PlanState) (line : List ℕ) (left : List (List ℕ)) (cause : Cause) → (length left == 0) ≡ false → plan_value p line ≡ Err cause
    → plan_from number p (line ∷ left) ≡ Err (record { line = number; cause = cause })
unfolding plan_from
planned_refused number p line [] cause more e = cc
planned_refused number p line (next ∷ others) cause more e = rw e refl

-- what follows the last line end
pub planned_rest : (number : ℕ) (p : PlanState) (line : List ℕ) (left : List (List ℕ)) → (length left == 0) ≡ true → (length line == 0) ≡ true
    → plan_from number p (line ∷ left) ≡ Ok p.plan
unfolding plan_from
planned_rest number p line [] last e = rw e refl
planned_rest number p line (next ∷ others) last e = absurd (grind (arith, common_steps, last))

pub planned_unended : (number : ℕ) (p : PlanState) (line : List ℕ) (left : List (List ℕ)) → (length left == 0) ≡ true → (length line == 0) ≡ false
    → plan_from number p (line ∷ left) ≡ Err (record { line = number; cause = Unended })
unfolding plan_from
planned_unended number p line [] last e = rw e refl
planned_unended number p line (next ∷ others) last e = absurd (grind (arith, common_steps, last))

-- nothing is left
pub planned_all : (number : ℕ) (p : PlanState) → plan_from number p [] ≡ Ok p.plan
unfolding plan_from
planned_all number p = refl
