use Rattle.std.proofs.Common.{get_or, ap, ◌∙◌}
use Rattle.mpi_rings.proofs.Posting.{holds, oldest_read}
use Rattle.mpi_rings.proofs.post_ring.PostRing.next.Goals as goal

pub returns-else-entry-clause-oldest : goal.returns-else-entry-clause-oldest
returns-else-entry-clause-oldest c =
    let is = c.index-entry.ensures ∙ ap (λ i. get_or c.self.inside.entries.items i c.index-entry.result.now) c.from.ensures in
    rw (← c.self.view_is) (oldest_read _ _ _ c.index-entry.result.now _ (holds _ _ _ c.self.invariant) is c.if-entry.false)
