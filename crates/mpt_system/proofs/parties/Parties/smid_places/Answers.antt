use Rattle.std.proofs.Common.{◌≡◌, ◌∙◌, ◌+◌, ℕ, ap, map, arith}
use Rattle.std.specs.List.{range_with_len}
use Rattle.mpt_rules.specs.World.Places.{smid_place}
use Rattle.mpt_system.specs.Parties.{world_of}
use Rattle.mpt_system.specs.Places.{smid_place_of}
use Rattle.mpt_system.proofs.PlaceLists.{one_more}
use Rattle.mpt_system.proofs.parties.Parties.smid_places.Goals as goal

pub loop-index-preserved : goal.loop-index-preserved
loop-index-preserved c =
    let next : 1 + c.loop-index.index ≡ c.loop-index.index + 1 = omega arith in
    one_more smid_place_of (smid_place (world_of c.args.self.now)) c.loop-index.places.items c.push.new.self.items c.smid_place.result 1 c.loop-index.index (c.loop-index.index + 1) next c.loop-index.invariant c.smid_place.ensures c.in_ok-push.ensures.items

pub returns : goal.returns
returns c =
    let all : c.loop-index.index ≡ 280 = omega arith in
    c.loop-index.invariant ∙ ap (λ (n : ℕ). map (smid_place (world_of c.args.self.now)) (range_with_len 1 n)) all
