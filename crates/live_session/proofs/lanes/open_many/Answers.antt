use Rattle.std.proofs.Common.{◌∷◌, [], ap, length, length-append, arith}
use Rattle.std.proofs.lemmas.Slice.Zip.{all_zipped_more}
use Rattle.live_session.specs.Lanes.{IsNewGiver, IsNewTaker}
use Rattle.live_session.proofs.lanes.open_many.Goals as goal

pub loop-lane-preserved : goal.loop-lane-preserved
loop-lane-preserved g c =
    let lanes = c.loop-lane.lanes.items in
    let grown = c.in_ok-push.ensures.items in
    let opened = c.in_ok-lane.ensures in
    record {
      count = let n = ap length grown in let m = c.loop-lane.invariant.count in omega (arith, n, m, length-append lanes (c.in_ok-lane.lane ∷ []));
      givers = rw (grown, c.in_ok-push-2.ensures.items) (all_zipped_more IsNewGiver lanes c.loop-lane.givers.items c.in_ok-lane.lane c.in_ok-lane.ends.giver c.loop-lane.invariant.givers opened.giver);
      takers = rw (grown, c.in_ok-push-3.ensures.items) (all_zipped_more IsNewTaker lanes c.loop-lane.takers.items c.in_ok-lane.lane c.in_ok-lane.ends.taker c.loop-lane.invariant.takers opened.taker);
    }
