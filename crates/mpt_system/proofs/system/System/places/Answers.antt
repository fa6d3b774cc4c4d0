use Rattle.std.proofs.Common.{◌≡◌, ap, map}
use Rattle.mpt_rules.specs.World.Places.{smid_place}
use Rattle.mpt_system.specs.Parties.{world_of}
use Rattle.mpt_system.specs.Places.{smid_place_of}
use Rattle.mpt_system.specs.Whole.{Whole}
use Rattle.mpt_system.proofs.PlaceLists.{same_places}
use Rattle.mpt_system.proofs.system.System.places.Goals as goal

pub returns-clause-smids : goal.returns-clause-smids
returns-clause-smids c =
    let same : world_of c.self.inside.parties ≡ c.args.self.now.world = ap (λ (whole : Whole). whole.world) c.self.view_is in
    same_places smid_place 1 280 (world_of c.self.inside.parties) c.args.self.now.world (map smid_place_of c.in_ok-smids.smids.items) same c.in_ok-smids.ensures
