use Rattle.host_tables.proofs.SlotTables.{size_free, sorted_free}
use Rattle.host_tables.proofs.identifiers.Identifiers.new.Goals as goal

pub invariant_of-result : goal.invariant_of-result
invariant_of-result c = rw c.in_ok-pool.ensures (sorted_free 280, size_free)
