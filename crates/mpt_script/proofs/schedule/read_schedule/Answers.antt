use Rattle.std.proofs.Common.{◌∙◌, sym}
use Rattle.mpt_script.proofs.ReadAllowed.{schedule_allowed}
use Rattle.mpt_script.proofs.Reading.{read_all, read_refused, read_rest, read_said, read_unended}
use Rattle.mpt_script.proofs.schedule.read_schedule.Goals as goal

pub returns-in-Err-clause-refused : goal.returns-in-Err-clause-refused
returns-in-Err-clause-refused c =
    let inv = rw c.in-Some.ensures at c.loop-line.invariant in
    inv ∙ read_refused c.loop-line.number c.loop-line.declared c.loop-line.lines.items c.in-Some.line.now c.take.new.self c.in-Err.cause (sym c.is_empty.ensures ∙ c.if-is_empty.false) (sym c.line_value.ensures.value ∙ c.in-Err.is)

pub returns-then-is_empty-2-clause-read : goal.returns-then-is_empty-2-clause-read
returns-then-is_empty-2-clause-read c =
    let inv = rw c.in-Some.ensures at c.loop-line.invariant in
    rw c.from_lines.ensures (inv ∙ read_rest c.loop-line.number c.loop-line.declared c.loop-line.lines.items c.in-Some.line.now c.take.new.self (sym c.is_empty.ensures ∙ c.if-is_empty.true) (sym c.is_empty-then-is_empty.ensures ∙ c.if-is_empty-2.true))

pub returns-then-is_empty-clause-refused : goal.returns-then-is_empty-clause-refused
returns-then-is_empty-clause-refused c =
    let inv = rw c.in-Some.ensures at c.loop-line.invariant in
    inv ∙ read_unended c.loop-line.number c.loop-line.declared c.loop-line.lines.items c.in-Some.line.now c.take.new.self (sym c.is_empty.ensures ∙ c.if-is_empty.true) (sym c.is_empty-then-is_empty.ensures ∙ c.if-is_empty-2.false)

pub loop-line-preserved : goal.loop-line-preserved
loop-line-preserved c =
    let inv = rw c.in-Some.ensures at c.loop-line.invariant in
    rw (c.in_ok-add-in-Ok.ensures.declared, c.in_ok-add-in-Ok.ensures.lines, c.saturating_add-number.ensures)
    (inv ∙ read_said c.loop-line.number c.loop-line.declared c.loop-line.lines.items c.in-Some.line.now c.take.new.self c.in-Ok.said (sym c.is_empty.ensures ∙ c.if-is_empty.false) (sym c.line_value.ensures.value ∙ c.in-Ok.is))

pub returns-clause-read : goal.returns-clause-read
returns-clause-read c =
    let inv = rw c.in_default.ensures.0 at c.loop-line.invariant in
    rw c.from_lines-2.ensures (inv ∙ read_all c.loop-line.number c.loop-line.declared c.loop-line.lines.items)

pub from_lines-requires : goal.from_lines-requires
from_lines-requires c =
    let inv = rw c.in-Some.ensures at c.loop-line.invariant in
    schedule_allowed c.args.text.now c.loop-line.lines.items (inv ∙ read_rest c.loop-line.number c.loop-line.declared c.loop-line.lines.items c.in-Some.line.now c.take.new.self (sym c.is_empty.ensures ∙ c.if-is_empty.true) (sym c.is_empty-then-is_empty.ensures ∙ c.if-is_empty-2.true))

pub from_lines-requires-2 : goal.from_lines-requires-2
from_lines-requires-2 c =
    let inv = rw c.in_default.ensures.0 at c.loop-line.invariant in
    schedule_allowed c.args.text.now c.loop-line.lines.items (inv ∙ read_all c.loop-line.number c.loop-line.declared c.loop-line.lines.items)
