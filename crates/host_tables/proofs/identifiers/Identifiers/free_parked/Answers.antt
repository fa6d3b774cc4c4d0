use Rattle.std.proofs.Common.{refl}
use Rattle.smid_pool.specs.Pool.{Free}
use Rattle.host_tables.proofs.SlotTables.{parked_above_zero, size_with, sorted_without}
use Rattle.host_tables.proofs.identifiers.Identifiers.free_parked.Goals as goal

pub invariant_of-self : goal.invariant_of-self
invariant_of-self c =
    rw c.close.ensures.freed (
      sorted_without c.self.inside.pool c.args.smid Free (parked_above_zero c.self.inside.pool c.args.smid (rw (← c.self.view_is) at c.requires)) refl c.self.invariant.0,
      size_with c.self.inside.pool c.args.smid Free c.self.invariant.1,
    )
