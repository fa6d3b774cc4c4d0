use Rattle.std.proofs.Common.{◌∙◌, sym}
use Rattle.mpt_script.proofs.PlanReading.{planned_all, planned_refused, planned_rest, planned_said, planned_unended}
use Rattle.mpt_script.proofs.plan_text.read_plan.Goals as goal

pub returns-in-Err-clause-refused : goal.returns-in-Err-clause-refused
returns-in-Err-clause-refused c =
    let inv = rw c.in-Some.ensures at c.loop-line.invariant in
    inv ∙ planned_refused c.loop-line.number c.loop-line.planning c.in-Some.line.now c.take.new.self c.in-Err.cause (sym c.is_empty.ensures ∙ c.if-is_empty.false) (sym c.plan_value.ensures.value ∙ c.in-Err.is)

pub returns-then-is_empty-2-clause-read : goal.returns-then-is_empty-2-clause-read
returns-then-is_empty-2-clause-read c =
    let inv = rw c.in-Some.ensures at c.loop-line.invariant in
    rw (c.from_parts.ensures, c.into_parts.ensures) (inv ∙ planned_rest c.loop-line.number c.loop-line.planning c.in-Some.line.now c.take.new.self (sym c.is_empty.ensures ∙ c.if-is_empty.true) (sym c.is_empty-then-is_empty.ensures ∙ c.if-is_empty-2.true))

pub returns-then-is_empty-clause-refused : goal.returns-then-is_empty-clause-refused
returns-then-is_empty-clause-refused c =
    let inv = rw c.in-Some.ensures at c.loop-line.invariant in
    inv ∙ planned_unended c.loop-line.number c.loop-line.planning c.in-Some.line.now c.take.new.self (sym c.is_empty.ensures ∙ c.if-is_empty.true) (sym c.is_empty-then-is_empty.ensures ∙ c.if-is_empty-2.false)

pub loop-line-preserved : goal.loop-line-preserved
loop-line-preserved c =
    let inv = rw c.in-Some.ensures at c.loop-line.invariant in
    rw (c.in_ok-add-in-Ok.ensures, c.saturating_add-number.ensures)
    (inv ∙ planned_said c.loop-line.number c.loop-line.planning c.in-Some.line.now c.take.new.self c.in-Ok.said (sym c.is_empty.ensures ∙ c.if-is_empty.false) (sym c.plan_value.ensures.value ∙ c.in-Ok.is))

pub returns-clause-read : goal.returns-clause-read
returns-clause-read c =
    let inv = rw c.in_default.ensures.0 at c.loop-line.invariant in
    rw (c.from_parts-2.ensures, c.into_parts-2.ensures) (inv ∙ planned_all c.loop-line.number c.loop-line.planning)

pub from_parts-requires : goal.from_parts-requires
from_parts-requires c =
    let inv = rw c.in-Some.ensures at c.loop-line.invariant in
    rw c.into_parts.ensures (c.args.text.now, inv ∙ planned_rest c.loop-line.number c.loop-line.planning c.in-Some.line.now c.take.new.self (sym c.is_empty.ensures ∙ c.if-is_empty.true) (sym c.is_empty-then-is_empty.ensures ∙ c.if-is_empty-2.true))

pub from_parts-requires-2 : goal.from_parts-requires-2
from_parts-requires-2 c =
    let inv = rw c.in_default.ensures.0 at c.loop-line.invariant in
    rw c.into_parts-2.ensures (c.args.text.now, inv ∙ planned_all c.loop-line.number c.loop-line.planning)
