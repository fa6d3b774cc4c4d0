use Rattle.std.proofs.Common.{◌≡◌, ◌+◌, ◌≤◌, ◌++◌, take}
use Rattle.std.specs.List.{filter_map}
use Rattle.mpt_rules.specs.Host.Resets.{reset_target}
use Rattle.host_core.proofs.host.resets.tell_targets.Given as goal

abbrev pub invariant-loop-place : goal.invariant-loop-place
invariant-loop-place l =
    record {
      told : l.lists.told ≡ l.initial.lists.told ++ filter_map reset_target (take l.place l.pool);
      others : l.lists ≡ record l.initial.lists { told = l.lists.told; room = l.lists.room };
      room : l.initial.lists.room ≤ l.lists.room + l.place;
    }
