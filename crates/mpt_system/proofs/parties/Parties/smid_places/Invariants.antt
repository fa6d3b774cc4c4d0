use Rattle.std.proofs.Common.{◌≡◌, map}
use Rattle.std.specs.List.{range_with_len}
use Rattle.mpt_rules.specs.World.Places.{smid_place}
use Rattle.mpt_system.specs.Parties.{world_of}
use Rattle.mpt_system.specs.Places.{smid_place_of}
use Rattle.mpt_system.proofs.parties.Parties.smid_places.Given as goal

abbrev pub invariant-loop-index : goal.invariant-loop-index
invariant-loop-index l = map smid_place_of l.places.items ≡ map (smid_place (world_of l.self)) (range_with_len 1 l.index)
