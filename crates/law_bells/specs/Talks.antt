-- All further facts of the doorbell.
use Rattle.mpt_rules.specs.World.State.{World}
use Rattle.law_starts.specs.Starts.{StartsStand}
use Rattle.law_locks.specs.Locks.{HandshakesStand}
use Rattle.law_fresh.specs.Bare.{StartsBare}

pub record TalksStand (w : World) : Type 0 where
  pub starts : StartsStand w
  pub handshakes : HandshakesStand w
  pub bare : StartsBare w
