use Rattle.std.proofs.Common.{◌≡◌, length}
use Rattle.std.specs.Prelude.{OnOk}
use Rattle.mpt_live.specs.Recorded.{stamped_with}
use Rattle.mpt_live.proofs.recorded_host.record_told.Given as goal

abbrev pub invariant-loop-entry : goal.invariant-loop-entry
invariant-loop-entry l =
    record {
      host : l.host.host ≡ l.initial.host.host;
      recorded : OnOk l.recorded (stamped_with l.journal.row l.stamp l.host.told ≡ stamped_with l.initial.journal.row l.stamp l.initial.host.told);
    }

abbrev pub decreases-loop-entry : goal.decreases-loop-entry
decreases-loop-entry l = length l.host.told
