use Rattle.std.proofs.Common.{◌≡◌, length}
use Rattle.live_session.specs.Lanes.{AreGiversOf, AreTakersOf}
use Rattle.live_session.proofs.lanes.open_many.Given as goal

abbrev pub invariant-loop-lane : goal.invariant-loop-lane
invariant-loop-lane g l =
    record {
      count : length l.lanes.items ≡ l._lane;
      givers : AreGiversOf l.lanes.items l.givers.items;
      takers : AreTakersOf l.lanes.items l.takers.items;
    }
