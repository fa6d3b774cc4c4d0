use Rattle.std.proofs.Common.{◌≡◌, ◌≤◌, ◌+◌}
use Rattle.std.specs.List.{fold, range_with_len}
use Rattle.mpt_rules.specs.Host.Returns.{with_return}
use Rattle.host_core.proofs.host.Host.return_all.Given as goal

abbrev pub invariant-loop-frame : goal.invariant-loop-frame
invariant-loop-frame l =
    record {
      host : l.self.host ≡ fold with_return l.initial.self.host (range_with_len 0 l.frame);
      told : l.self.told ≡ l.initial.self.told;
      room : l.initial.self.room ≤ l.self.room + l.frame;
      numbers : l.self.has_number_room ≡ l.initial.self.has_number_room;
      aborts : l.self.has_abort_room ≡ l.initial.self.has_abort_room;
    }
