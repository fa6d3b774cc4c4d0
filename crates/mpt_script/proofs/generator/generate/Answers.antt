use Rattle.std.proofs.Common.{arith, ◌∙◌}
use Rattle.mpt_script.proofs.GeneratedAllowed.{generated_allowed}
use Rattle.mpt_script.proofs.Turns.{turn_last, turn_more}
use Rattle.mpt_script.proofs.generator.generate.Goals as goal

pub loop-turn-preserved : goal.loop-turn-preserved
loop-turn-preserved c = record {
  so_far = turn_more c.loop-turn.lines.items c.push_turn.new.lines.items _ c.loop-turn.turn c.loop-turn.generator c.advance.new.self (omega arith) c.in_ok-push_turn.ensures c.advance.ensures.turned c.loop-turn.invariant.so_far;
  small = c.advance.ensures.small;
  few = c.advance.ensures.few;
}

pub returns : goal.returns
returns c = c.from_lines.ensures ∙ turn_last c.loop-turn.lines.items c.push.new.self.items _ c.loop-turn.turn c.loop-turn.generator (omega arith) c.in_ok-push.ensures.items c.loop-turn.invariant.so_far

pub from_lines-requires : goal.from_lines-requires
from_lines-requires c =
    let whole = turn_last c.loop-turn.lines.items c.push.new.self.items _ c.loop-turn.turn c.loop-turn.generator (omega arith) c.in_ok-push.ensures.items c.loop-turn.invariant.so_far in
    rw whole (generated_allowed c.args.number)
