-- What is kept with all that is on its way, and no other fact gives; and what is said of returned frames.
use Rattle.std.specs.Prelude.{◌≡◌, ◌&&◌, true, false, is_some}
use Rattle.mpt_rules.specs.Host.Takes.{is_starting}
use Rattle.mpt_rules.specs.World.Counts.{how_many}
use Rattle.mpt_rules.specs.World.PlaceCounts.{is_held_frame}
use Rattle.mpt_rules.specs.World.State.{World}
use Rattle.law_facts.specs.Clock.{in_normal}
use Rattle.law_places.specs.Further.{VectorsFit}
use Rattle.law_records.specs.Records.{AbortsAreKnown}

-- two further facts: no IOC Init asked for more reply queues than there are; the number of an open abort was accepted
pub record FurtherFlights (w : World) : Type 0 where
  pub vectors : VectorsFit w
  pub aborts : AbortsAreKnown w

-- once the handshakes of a start are over, the host holds no frame
abbrev pub HoldsNone : World → Type 0
HoldsNone w = in_normal w ≡ true → is_starting w.host.mode && is_some w.host.machine ≡ false → how_many is_held_frame w.host.frames ≡ 0
