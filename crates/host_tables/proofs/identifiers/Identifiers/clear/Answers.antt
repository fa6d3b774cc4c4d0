use Rattle.host_tables.proofs.SlotTables.{size_free, sorted_free}
use Rattle.host_tables.proofs.identifiers.Identifiers.clear.Goals as goal

pub invariant_of-self : goal.invariant_of-self
invariant_of-self c = rw c.clear.ensures (sorted_free 280, size_free)
