use Rattle.std.proofs.Common.{◌≡◌, map, take}
use Rattle.mpt_rules.specs.World.TurnsDone.{does_turns}
use Rattle.mpt_system.specs.Turns.{tries_it}
use Rattle.mpt_system.specs.Whole.{after}
use Rattle.mpt_system.proofs.system.System.try_all.Given as goal

abbrev pub invariant-loop-choice : goal.invariant-loop-choice
invariant-loop-choice l = l.self ≡ after l.fn.self (does_turns l.fn.self.world (map tries_it (take l.choice-index l.choices)))
