use Rattle.std.proofs.Common.{◌≡◌, ◌+◌, ◌≤◌, length, take}
use Rattle.ioc_core.specs.Lists.{after_puts}
use Rattle.ioc_core.proofs.Puts.{answers_for}
use Rattle.ioc_core.proofs.lists.put_answers.Given as goal

abbrev pub invariant-loop-i : goal.invariant-loop-i
invariant-loop-i l = record {
  boxes : l.up.boxes ≡ after_puts 0 (answers_for l.handle (take l.i l.held.items)) l.initial.up.boxes;
  room : length l.held.items ≤ l.up.room + l.i;
}
