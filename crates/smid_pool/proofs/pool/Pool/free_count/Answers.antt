use Rattle.std.proofs.Common.{sym}
use Rattle.smid_pool.proofs.Slots.{free_count-map, partition}
use Rattle.smid_pool.proofs.pool.Pool.free_count.Goals as goal

pub returns-clause-value : goal.returns-clause-value
returns-clause-value g c =
    rw (c.vacant_count.ensures.value, c.deref.ensures.value, ← c.self.view_is)
    (sym (free_count-map c.self.inside.records c.self.inside.places.items c.args.class))

pub returns-clause-partition : goal.returns-clause-partition
returns-clause-partition g c =
    rw (← c.self.view_is) (partition c.self.inside.records c.self.inside.places.items c.self.invariant.sound.size)
