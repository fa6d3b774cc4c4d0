-- What the lines of a plan have declared, and the causes that rest on it.
use Rattle.std.specs.Prelude.{ℕ, ◌+◌, ◌==◌, ◌||◌, not, nat_le, ◌≤◌, Bool, true, false, if◌then◌else◌, List, [], ◌∷◌, ◌++◌, length, Option, None, Some, Result, Ok, Err}
use Rattle.std.specs.List.{list_any}
use Rattle.std.specs.Ordering.{nat_cmp}
use Rattle.std.specs.BTreeSet.{insert_key}
use Rattle.mpt_lines.specs.declared.fault.Cause.{Cause}
use Rattle.mpt_lines.specs.declared.fault.Cause.TheVariants.{Order, Again, Many, Name}
use Rattle.mpt_lines.specs.declared.statement.PlanStatement.{PlanStatement}
use Rattle.mpt_lines.specs.declared.statement.PlanStatement.TheVariants as plan
use Rattle.mpt_lines.specs.declared.statement.Statement.{Statement}
use Rattle.mpt_lines.specs.declared.statement.Statement.TheVariants as statement
use Rattle.mpt_lines.specs.Numbers.{◌>>=◌}
use Rattle.mpt_trace.specs.declared.input.Input.{Input}
use Rattle.mpt_trace.specs.declared.input.Input.TheVariants as input
use Rattle.mpt_script.specs.declared.line.Line.{Line}
use Rattle.mpt_script.specs.declared.line.Line.TheVariants as line
use Rattle.mpt_script.specs.declared.planning.Block.{Block}
use Rattle.mpt_script.specs.declared.planning.Block.TheVariants as block
use Rattle.mpt_script.specs.declared.planning.PlanLine.{PlanLine}
use Rattle.mpt_script.specs.declared.planning.PlanLine.TheVariants as planned
use Rattle.mpt_script.specs.declared.schedule_stage.ScheduleStage.TheVariants.{Steps}
use Rattle.mpt_script.specs.Declarations.{Declared, HasRoom, after, is_misplaced, is_repeated, is_too_many, is_unknown, line_of, nothing_declared}
use Rattle.mpt_script.specs.PlanParts.{PlanParts}
use Rattle.mpt_script.specs.PlanState.{PlanState}

-- before the first line that says something
abbrev pub nothing_planned : PlanState
nothing_planned = record {
  block = block.Setup;
  declared = nothing_declared;
  numbers = [];
  lines = 0;
  plan = record { queues = 1; disks = []; phys = []; plugs = []; submitters = []; fabric = [] };
}

abbrev pub is_fabric : Block → Bool
is_fabric block.Fabric = true
is_fabric _ = false

abbrev pub is_submitter : Block → Bool
is_submitter block.Submitter = true
is_submitter _ = false

-- Plugs stand before the first block and in the fabric's, unplugs in the fabric's, and what the host is
-- told in the submitters'.
abbrev pub is_out_of_block : Block → Statement → Bool
is_out_of_block place (statement.Plug address expander phy) = is_submitter place
is_out_of_block place (statement.Unplug address) = not (is_fabric place)
is_out_of_block place (statement.Host given) = not (is_submitter place)
is_out_of_block place _ = false

-- the number of a submission was used before
abbrev pub is_numbered : PlanState → Statement → Bool
is_numbered p (statement.Host (input.Submit n address form)) = list_any (λ m. m == n) p.numbers
is_numbered p _ = false

-- the submitters have 4,096 lines
abbrev pub is_crowded : PlanState → Statement → Bool
is_crowded p (statement.Host given) = nat_le 4096 p.lines
is_crowded p _ = false

-- the line that a statement is, or the first cause that it is refused for
abbrev pub judged_line : PlanState → Statement → Result Line Cause
judged_line p said =
    if is_misplaced p.declared said || is_out_of_block p.block said then Err Order
    else if is_repeated p.declared said || is_numbered p said then Err Again
    else if is_too_many p.declared said || is_crowded p said then Err Many
    else if is_unknown p.declared said then Err Name
    else Ok (line_of said)

-- Submitters come in the order of their numbers, before the fabric, and there are at most eight.
abbrev pub judged_submitter : PlanState → ℕ → Result PlanLine Cause
judged_submitter p number =
    if is_fabric p.block || not (number == length p.plan.submitters) then Err Order
    else if nat_le 8 (length p.plan.submitters) then Err Many
    else Ok planned.Submitter

-- The fabric has one block.
abbrev pub judged_fabric : PlanState → Result PlanLine Cause
judged_fabric p = if is_fabric p.block then Err Order else Ok planned.Fabric

abbrev pub shared : Line → PlanLine
shared said = planned.Line said

abbrev pub plan_judged : PlanState → PlanStatement → Result PlanLine Cause
plan_judged p (plan.Line said) = judged_line p said >>= (λ value. Ok (planned.Line value))
plan_judged p (plan.Submitter number) = judged_submitter p number
plan_judged p plan.Fabric = judged_fabric p

-- how many of the submitters' lines a line is
abbrev pub lines_of : Block → Line → ℕ
lines_of block.Submitter (line.Input given) = 1
lines_of _ _ = 0

-- the limits leave room for a line
abbrev pub HasPlanRoom : PlanState → PlanLine → Type 0
HasPlanRoom p (planned.Line said) = HasRoom p.declared said × (p.lines + lines_of p.block said ≤ 4096)
HasPlanRoom p _ = Unit {0}

-- the submission's number in a line, if it has one
abbrev pub number_of : Line → Option ℕ
number_of (line.Input (input.Submit n address form)) = Some n
number_of _ = None

-- the submissions' numbers, in order, with that of a line
abbrev pub noted : List ℕ → Option ℕ → List ℕ
noted numbers (Some n) = insert_key nat_cmp numbers n
noted numbers None = numbers

-- an input at the end of the last submitter's
abbrev pub onto_last : List (List Input) → Input → List (List Input)
onto_last [] given = []
onto_last (inputs ∷ []) given = (inputs ++ given ∷ []) ∷ []
onto_last (inputs ∷ next ∷ others) given = inputs ∷ onto_last (next ∷ others) given

-- an input in its block
abbrev pub placed : Block → PlanParts → Input → PlanParts
placed block.Setup parts given = record parts { plugs = parts.plugs ++ given ∷ [] }
placed block.Submitter parts given = record parts { submitters = onto_last parts.submitters given }
placed block.Fabric parts given = record parts { fabric = parts.fabric ++ given ∷ [] }

-- the parts with a line
abbrev pub extended : Block → PlanParts → Line → PlanParts
extended place parts (line.Queues queues) = record parts { queues = queues }
extended place parts (line.Disk disk) = record parts { disks = parts.disks ++ disk ∷ [] }
extended place parts (line.Expander phys) = record parts { phys = parts.phys ++ phys ∷ [] }
extended place parts (line.Input given) = placed place parts given
extended place parts (line.Choice choice count) = parts
extended place parts line.Drain = parts

-- the parts with one more submitter
abbrev pub with_submitter : PlanParts → PlanParts
with_submitter parts = record parts { submitters = parts.submitters ++ [] ∷ [] }

-- after the last line before the blocks
abbrev pub begun : Declared → Declared
begun d = record d { stage = Steps }

-- the plan after a line
abbrev pub planned_after : PlanState → PlanLine → PlanState
planned_after p (planned.Line said) = record p { declared = after p.declared said; numbers = noted p.numbers (number_of said); lines = p.lines + lines_of p.block said; plan = extended p.block p.plan said }
planned_after p planned.Submitter = record p { block = block.Submitter; declared = begun p.declared; plan = with_submitter p.plan }
planned_after p planned.Fabric = record p { block = block.Fabric; declared = begun p.declared }
