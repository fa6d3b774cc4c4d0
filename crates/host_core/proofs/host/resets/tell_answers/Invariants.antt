use Rattle.std.proofs.Common.{◌≡◌, ◌+◌, ◌≤◌, ◌++◌, length, map, true}
use Rattle.std.specs.FinMap as numbers
use Rattle.mpt_rules.specs.Host.Resets.{reset_answer}
use Rattle.host_core.proofs.host.resets.tell_answers.Given as goal

abbrev pub invariant-loop-n : goal.invariant-loop-n
invariant-loop-n l =
    record {
      has_room : l.cmds.has_room ≡ true;
      told : l.lists.told ++ map reset_answer (numbers.keys l.cmds.map) ≡ l.initial.lists.told ++ map reset_answer (numbers.keys l.initial.cmds.map);
      others : l.lists ≡ record l.initial.lists { told = l.lists.told; room = l.lists.room };
      room : length (numbers.keys l.cmds.map) ≤ l.lists.room;
      used : l.initial.lists.room + length (numbers.keys l.cmds.map) ≤ l.lists.room + length (numbers.keys l.initial.cmds.map);
    }

abbrev pub decreases-loop-n : goal.decreases-loop-n
decreases-loop-n l = length (numbers.keys l.cmds.map)
