use Rattle.std.proofs.Common.{refl}
use Rattle.smid_pool.specs.Pool.{Parked}
use Rattle.host_tables.proofs.SlotTables.{open_above_zero, size_with, sorted_without}
use Rattle.host_tables.proofs.identifiers.Identifiers.park.Goals as goal

pub invariant_of-self : goal.invariant_of-self
invariant_of-self c =
    rw c.park.ensures.parked (
      sorted_without c.self.inside.pool c.args.smid Parked (open_above_zero c.self.inside.pool c.args.smid (rw (← c.self.view_is) at c.requires)) refl c.self.invariant.0,
      size_with c.self.inside.pool c.args.smid Parked c.self.invariant.1,
    )
