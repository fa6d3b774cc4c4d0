use Rattle.std.proofs.Common.{◌≡◌, ◌+◌, ◌-◌, ◌≤◌}
use Rattle.mpt_trace.specs.declared.choice.Choice.TheVariants as choice
use Rattle.mpt_rules.specs.World.TurnsDone.{does_turns}
use Rattle.mpt_system.specs.Turns.{tries_it}
use Rattle.mpt_system.specs.Whole.{after}
use Rattle.mpt_system.proofs.Turns.{below}
use Rattle.mpt_system.proofs.system.System.try_takes_above.Given as goal

abbrev pub invariant-loop-queue : goal.invariant-loop-queue
invariant-loop-queue l = record {
  place : l.queue ≤ 1 + (l.queues - 1);
  done : l.self ≡ after l.fn.self (does_turns l.fn.self.world (below (λ queue. tries_it (choice.HostTakeOn queue)) l.queue));
}
