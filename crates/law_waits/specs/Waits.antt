-- What waits at the host waits for an identifier.
use Rattle.std.specs.Prelude.{◌≡◌, ◌≤◌, length, None}
use Rattle.smid_pool.specs.Pool.{least_free}
use Rattle.smid_pool.specs.declared.class.Class.TheVariants.{High, Internal}
use Rattle.mpt_rules.specs.World.State.{World}

-- of the class that it waits for none is free
pub record WaitsForIdentifiers (w : World) : Type 0 where
  pub high : 1 ≤ length w.host.wait_high → least_free High w.host.pool ≡ None
  pub internal : 1 ≤ length w.host.wait_internal → least_free Internal w.host.pool ≡ None
