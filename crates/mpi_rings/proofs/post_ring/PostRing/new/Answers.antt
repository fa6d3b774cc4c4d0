use Rattle.mpi_rings.proofs.Posting.{holds_order, new_holds}
use Rattle.mpi_rings.proofs.post_ring.PostRing.new.Goals as goal

pub invariant_of-result : goal.invariant_of-result
invariant_of-result c = rw c.in_ok-entries.ensures (holds_order _ _ _ _ new_holds)
