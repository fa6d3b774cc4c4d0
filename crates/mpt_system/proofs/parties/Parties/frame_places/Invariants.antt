use Rattle.std.proofs.Common.{◌≡◌, map}
use Rattle.std.specs.List.{range_with_len}
use Rattle.mpt_rules.specs.World.Places.{frame_place}
use Rattle.mpt_system.specs.Parties.{world_of}
use Rattle.mpt_system.specs.Places.{frame_place_of}
use Rattle.mpt_system.proofs.parties.Parties.frame_places.Given as goal

abbrev pub invariant-loop-frame : goal.invariant-loop-frame
invariant-loop-frame l = map frame_place_of l.places.items ≡ map (frame_place (world_of l.self)) (range_with_len 0 l.frame)
