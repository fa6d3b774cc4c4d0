use Rattle.std.proofs.Common.{◌∙◌, append_assoc, refl, sym, arith}
use Rattle.std.proofs.lemmas.List.{append-nil}
use Rattle.host_tables.proofs.Turns.{goes_on-none, goes_on-other, goes_on-write}
use Rattle.host_tables.proofs.turn.+go_on.Goals as goal

pub returns-in_default : goal.returns-in_default
returns-in_default t c =
    let none = goes_on-other c.args.more c.args.door.now c.args.step c.in_default.not-Write in
    record {
      door = rw none refl;
      step = rw none refl;
      begins = rw none refl;
      down = rw none (sym (append-nil c.args.lists.now.down));
      others = refl;
      room_left = omega arith;
      awaits = c.requires.expected;
      size = c.requires.small;
    }

pub returns-then-more-eq0-clause-door : goal.returns-then-more-eq0-clause-door
returns-then-more-eq0-clause-door t c = rw (c.if-more-eq0.true, goes_on-none c.args.door.now c.args.step) refl

pub returns-then-more-eq0-clause-step : goal.returns-then-more-eq0-clause-step
returns-then-more-eq0-clause-step t c = rw (c.if-more-eq0.true, goes_on-none c.args.door.now c.args.step) (sym c.in-Write.is)

pub returns-then-more-eq0-clause-begins : goal.returns-then-more-eq0-clause-begins
returns-then-more-eq0-clause-begins t c = rw (c.if-more-eq0.true, goes_on-none c.args.door.now c.args.step) refl

pub returns-then-more-eq0-clause-down : goal.returns-then-more-eq0-clause-down
returns-then-more-eq0-clause-down t c = rw (c.if-more-eq0.true, goes_on-none c.args.door.now c.args.step) (sym (append-nil c.args.lists.now.down))

pub returns-then-begins_reset-clause-door : goal.returns-then-begins_reset-clause-door
returns-then-begins_reset-clause-door t c =
    let turn = goes_on-write c.args.more c.args.door.now c.in-Write.reg c.in-Write.value (omega arith) in
    c.go_on-rest.ensures.door ∙ rw (c.in-Write.is, turn, c.next-next.ensures.after, c.next-next.ensures.step) refl

pub returns-then-begins_reset-clause-step : goal.returns-then-begins_reset-clause-step
returns-then-begins_reset-clause-step t c =
    let turn = goes_on-write c.args.more c.args.door.now c.in-Write.reg c.in-Write.value (omega arith) in
    c.go_on-rest.ensures.step ∙ rw (c.in-Write.is, turn, c.next-next.ensures.after, c.next-next.ensures.step) refl

pub returns-then-begins_reset-clause-down : goal.returns-then-begins_reset-clause-down
returns-then-begins_reset-clause-down t c =
    let turn = goes_on-write c.args.more c.args.door.now c.in-Write.reg c.in-Write.value (omega arith) in
    c.go_on-rest.ensures.down ∙ rw (c.in-Write.is, turn, c.next-next.ensures.after, c.next-next.ensures.step, c.push_down.ensures, append_assoc) refl

pub returns-else-begins_reset-clause-door : goal.returns-else-begins_reset-clause-door
returns-else-begins_reset-clause-door t c =
    let turn = goes_on-write c.args.more c.args.door.now c.in-Write.reg c.in-Write.value (omega arith) in
    c.go_on-rest.ensures.door ∙ rw (c.in-Write.is, turn, c.next-next.ensures.after, c.next-next.ensures.step) refl

pub returns-else-begins_reset-clause-step : goal.returns-else-begins_reset-clause-step
returns-else-begins_reset-clause-step t c =
    let turn = goes_on-write c.args.more c.args.door.now c.in-Write.reg c.in-Write.value (omega arith) in
    c.go_on-rest.ensures.step ∙ rw (c.in-Write.is, turn, c.next-next.ensures.after, c.next-next.ensures.step) refl

pub returns-else-begins_reset-clause-down : goal.returns-else-begins_reset-clause-down
returns-else-begins_reset-clause-down t c =
    let turn = goes_on-write c.args.more c.args.door.now c.in-Write.reg c.in-Write.value (omega arith) in
    c.go_on-rest.ensures.down ∙ rw (c.in-Write.is, turn, c.next-next.ensures.after, c.next-next.ensures.step, c.push_down.ensures, append_assoc) refl

pub returns-then-begins_reset-clause-begins : goal.returns-then-begins_reset-clause-begins
returns-then-begins_reset-clause-begins t c =
    let turn = goes_on-write c.args.more c.args.door.now c.in-Write.reg c.in-Write.value (omega arith) in
    rw (c.in-Write.is, turn, ← c.begins_reset.ensures, c.if-begins_reset.true) refl

pub returns-else-begins_reset-clause-begins : goal.returns-else-begins_reset-clause-begins
returns-else-begins_reset-clause-begins t c =
    let turn = goes_on-write c.args.more c.args.door.now c.in-Write.reg c.in-Write.value (omega arith) in
    rw (c.in-Write.is, turn, ← c.begins_reset.ensures, c.if-begins_reset.false) (c.go_on-rest.ensures.begins ∙ rw (c.next-next.ensures.after, c.next-next.ensures.step) refl)
