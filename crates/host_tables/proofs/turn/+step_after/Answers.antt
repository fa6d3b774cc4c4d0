use Rattle.std.proofs.Common.{◌∙◌, refl, arith}
use Rattle.host_tables.proofs.Turns.{goes_on-none, goes_on-other, goes_on-write}
use Rattle.host_tables.proofs.turn.+step_after.Goals as goal

pub returns-in_default : goal.returns-in_default
returns-in_default t c =
    record {
      step = rw (goes_on-other c.args.more c.args.door.now c.args.step c.in_default.not-Write) refl;
      size = c.requires.small;
    }

pub returns-then-more-eq0-clause-step : goal.returns-then-more-eq0-clause-step
returns-then-more-eq0-clause-step t c = rw (c.if-more-eq0.true, goes_on-none c.args.door.now c.args.step) refl

pub returns-clause-step : goal.returns-clause-step
returns-clause-step t c =
    let turn = goes_on-write c.args.more c.args.door.now c.in-Write.reg c.in-Write.value (omega arith) in
    c.step_after.ensures.step ∙ rw (c.in-Write.is, turn, c.next-next.ensures.after, c.next-next.ensures.step) refl
