use Rattle.std.proofs.Common.{◌≡◌, drop, length}
use Rattle.live_session.specs.Lanes.{AreGiversOf}
use Rattle.live_session.proofs.lanes.givings.Given as goal

abbrev pub invariant-loop-lane : goal.invariant-loop-lane
invariant-loop-lane g l =
    record {
      count : length l.ends.items ≡ l.lane-index;
      rest : AreGiversOf (drop l.lane-index l.lanes) l.givers.items;
    }
