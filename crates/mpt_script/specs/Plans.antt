-- The text of a plan: the plan that it stands for, or its first faulty line and that line's first cause.
use Rattle.std.specs.Prelude.{ℕ, ◌==◌, ◌≡◌, if◌then◌else◌, List, [], ◌∷◌, length, Option, Some, None, Result, Ok, Err}
use Rattle.mpt_lines.specs.declared.fault.Cause.{Cause}
use Rattle.mpt_lines.specs.declared.fault.Cause.TheVariants.{Unended}
use Rattle.mpt_lines.specs.Numbers.{◌>>=◌}
use Rattle.mpt_lines.specs.Statements.{plan_line}
use Rattle.mpt_lines.specs.Words.{lines, words}
use Rattle.mpt_script.specs.declared.planning.PlanLine.{PlanLine}
use Rattle.mpt_script.specs.Planning.{nothing_planned, plan_judged, planned_after}
use Rattle.mpt_script.specs.PlanParts.{PlanParts}
use Rattle.mpt_script.specs.PlanState.{PlanState}
use Rattle.mpt_script.specs.Schedules.{Fault, next_number, says_nothing}

-- what a line says after what was planned, if it says something
abbrev pub plan_value : PlanState → List ℕ → Result (Option PlanLine) Cause
plan_value p line = if says_nothing line then Ok None else (plan_line (words line) >>= plan_judged p >>= (λ value. Ok (Some value)))

-- the plan after what a line said, if it said something
abbrev pub after_planned : PlanState → Option PlanLine → PlanState
after_planned p None = p
after_planned p (Some line) = planned_after p line

-- a line of this number, and what the text stands for after it
abbrev pub went_on : ℕ → PlanState → Result (Option PlanLine) Cause → (PlanState → Result PlanParts Fault) → Result PlanParts Fault
went_on number p (Err cause) others = Err (record { line = number; cause = cause })
went_on number p (Ok said) others = others (after_planned p said)

-- the plan with the lines from this number on; what follows the last line end is no line
unfoldable pub plan_from : ℕ → PlanState → List (List ℕ) → Result PlanParts Fault
plan_from number p [] = Ok p.plan
plan_from number p (rest ∷ []) = if length rest == 0 then Ok p.plan else Err (record { line = number; cause = Unended })
plan_from number p (line ∷ next ∷ others) = went_on number p (plan_value p line) (λ now. plan_from (next_number number) now (next ∷ others))

-- what a text stands for
abbrev pub plan_of : List ℕ → Result PlanParts Fault
plan_of text = plan_from 1 nothing_planned (lines text)

-- a plan that some text stands for
abbrev pub IsPlan : PlanParts → Type 0
IsPlan parts = (text : List ℕ) × (plan_of text ≡ Ok parts)
