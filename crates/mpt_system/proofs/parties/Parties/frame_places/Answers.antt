use Rattle.std.proofs.Common.{◌≡◌, ◌+◌, arith}
use Rattle.mpt_rules.specs.World.Places.{frame_place}
use Rattle.mpt_system.specs.Parties.{world_of}
use Rattle.mpt_system.specs.Places.{frame_place_of}
use Rattle.mpt_system.proofs.PlaceLists.{one_more}
use Rattle.mpt_system.proofs.parties.Parties.frame_places.Goals as goal

pub loop-frame-preserved : goal.loop-frame-preserved
loop-frame-preserved c =
    let next : 0 + c.loop-frame.frame ≡ c.loop-frame.frame = omega arith in
    one_more frame_place_of (frame_place (world_of c.args.self.now)) c.loop-frame.places.items c.push.new.self.items c.frame_place.result 0 c.loop-frame.frame c.loop-frame.frame next c.loop-frame.invariant c.frame_place.ensures c.in_ok-push.ensures.items
