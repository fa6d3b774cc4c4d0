use Rattle.std.proofs.Common.{get_or, ap, ◌∙◌}
use Rattle.mpi_rings.proofs.Posting.{holds, is_full_test}
use Rattle.mpi_rings.proofs.post_ring.PostRing.is_full.Goals as goal

pub returns-clause-full : goal.returns-clause-full
returns-clause-full c =
    let is = c.index.ensures ∙ ap (λ i. get_or c.self.inside.entries.items i c.index.result.now) c.from.ensures in
    rw (← c.self.view_is) (is_full_test _ _ _ c.index.result.now _ (holds _ _ _ c.self.invariant) is)
