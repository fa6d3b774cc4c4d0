use Rattle.std.proofs.Common.{◌≡◌, ◌∙◌, ◌+◌, ◌*◌, true, false, None, Some, sym, ap, arith}
use Rattle.mpt_wire.specs.Messages.Fields.{change_at}
use Rattle.removal.specs.Handles.{phase_at}
use Rattle.mpt_rules.specs.Host.Removal.{added_handle, is_absent}
use Rattle.host_reading.proofs.Listed.{found_later, found_none, found_past, found_there, whole}
use Rattle.host_reading.proofs.change.first_not_absent.Goals.{in-Some+else-not-is_absent, in_default}
use Rattle.host_reading.proofs.change.first_not_absent.Goals as goal

pub returns-then-not-is_absent : goal.returns-then-not-is_absent
returns-then-not-is_absent c =
    let added : added_handle (change_at c.args.frame.now (0x28 + 4 * c.loop-place.place)) ≡ Some c.in-Some.handle = ap added_handle (sym c.change_at.ensures) ∙ sym c.added.ensures ∙ c.in-Some.is in
    let there : is_absent (phase_at c.loop-place.phases c.in-Some.handle) ≡ false = sym c.is_absent.ensures ∙ c.if-not-is_absent.true in
    sym (whole c.args.phases.now c.copy-phases.result c.args.frame.now c.count_changes-place-end.result c.copy-phases.ensures c.count_changes-place-end.ensures.count
    ∙ c.loop-place.invariant
    ∙ found_there c.loop-place.phases c.args.frame.now c.loop-place.place c.count_changes-place-end.result c.in-Some.handle c.loop-place-test.true added there)

pub loop-place-preserved : goal.loop-place-preserved
loop-place-preserved c =
    elim c.match-added.branch [
      | in-Some+else-not-is_absent w ↦
          let added : added_handle (change_at c.args.frame.now (0x28 + 4 * c.loop-place.place)) ≡ Some w.in-Some.handle = ap added_handle (sym c.change_at.ensures) ∙ sym c.added.ensures ∙ w.in-Some.is in
          let absent : is_absent (phase_at c.loop-place.phases w.in-Some.handle) ≡ true = sym w.is_absent.ensures ∙ w.if-not-is_absent.false in
          c.loop-place.invariant
          ∙ found_later c.loop-place.phases c.match-added.phases c.args.frame.now c.loop-place.place c.count_changes-place-end.result w.in-Some.handle c.loop-place-test.true added absent (w.phases-is ∙ w.on_added.ensures)
      | in_default w ↦
          let none : added_handle (change_at c.args.frame.now (0x28 + 4 * c.loop-place.place)) ≡ None = ap added_handle (sym c.change_at.ensures) ∙ sym c.added.ensures ∙ w.in_default.is in
          c.loop-place.invariant
          ∙ found_past c.loop-place.phases c.match-added.phases c.args.frame.now c.loop-place.place c.count_changes-place-end.result c.loop-place-test.true none w.phases-is
    ]

pub returns : goal.returns
returns c =
    sym (whole c.args.phases.now c.copy-phases.result c.args.frame.now c.count_changes-place-end.result c.copy-phases.ensures c.count_changes-place-end.ensures.count
    ∙ c.loop-place.invariant
    ∙ found_none c.loop-place.phases c.args.frame.now c.loop-place.place c.count_changes-place-end.result (omega arith))
