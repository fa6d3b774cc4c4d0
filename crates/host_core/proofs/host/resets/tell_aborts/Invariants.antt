use Rattle.std.proofs.Common.{◌≡◌, ◌+◌, ◌≤◌, ◌++◌, length, map, true}
use Rattle.std.specs.FinMap as numbers
use Rattle.mpt_rules.specs.Host.Resets.{reset_abort}
use Rattle.host_core.proofs.host.resets.tell_aborts.Given as goal

abbrev pub invariant-loop-n : goal.invariant-loop-n
invariant-loop-n l =
    record {
      has_room : l.aborts.has_room ≡ true;
      told : l.lists.told ++ map reset_abort (numbers.keys l.aborts.map) ≡ l.initial.lists.told ++ map reset_abort (numbers.keys l.initial.aborts.map);
      others : l.lists ≡ record l.initial.lists { told = l.lists.told; room = l.lists.room };
      room : length (numbers.keys l.aborts.map) ≤ l.lists.room;
      used : l.initial.lists.room + length (numbers.keys l.aborts.map) ≤ l.lists.room + length (numbers.keys l.initial.aborts.map);
    }

abbrev pub decreases-loop-n : goal.decreases-loop-n
decreases-loop-n l = length (numbers.keys l.aborts.map)
