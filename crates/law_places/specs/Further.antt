-- A further fact of the controller, which no other fact gives: it stands in the first world, and each case keeps it.
use Rattle.std.specs.Prelude.{◌≤◌}
use Rattle.mpt_rules.specs.World.State.{World, queues_of}

-- no IOC Init asked for more reply queues than there are, also before a reset
abbrev pub VectorsFit : World → Type 0
VectorsFit w = w.ioc.vectors ≤ queues_of w
