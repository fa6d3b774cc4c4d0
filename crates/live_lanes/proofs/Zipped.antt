-- The submitters' ends, two and two.
use Rattle.std.proofs.Common.{◌≡◌, List, [], ◌∷◌, ap, arith, length, refl}
use Rattle.mpt_trace.specs.declared.item.Ask.{Ask}
use Rattle.mpt_trace.specs.declared.item.Tell.{Tell}
use Rattle.mpt_live.specs.Lanes.{LaneEnd}
use Rattle.live_lanes.specs.Closed.{asks_of, tells_of}
use Rattle.live_lanes.specs.Meeting.{lanes_zipped}

pub asks_zipped : (asks : List (LaneEnd Ask)) (tells : List (LaneEnd Tell)) → length asks ≡ length tells → asks_of (lanes_zipped asks tells) ≡ asks
asks_zipped [] tells e = refl
asks_zipped (a ∷ asks) [] e = absurd (omega (arith, e))
asks_zipped (a ∷ asks) (t ∷ tells) e = ap (λ xs. a ∷ xs) (asks_zipped asks tells (omega (arith, e)))

pub tells_zipped : (asks : List (LaneEnd Ask)) (tells : List (LaneEnd Tell)) → length asks ≡ length tells → tells_of (lanes_zipped asks tells) ≡ tells
tells_zipped [] [] e = refl
tells_zipped [] (t ∷ tells) e = absurd (omega (arith, e))
tells_zipped (a ∷ asks) [] e = absurd (omega (arith, e))
tells_zipped (a ∷ asks) (t ∷ tells) e = ap (λ xs. t ∷ xs) (tells_zipped asks tells (omega (arith, e)))
