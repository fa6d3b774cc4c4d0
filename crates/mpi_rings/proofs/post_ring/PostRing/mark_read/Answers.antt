use Rattle.std.proofs.Common.{◌<◌, ◌+◌, ◌%◌, length, ap, subst, sym}
use Rattle.mpi_rings.specs.PostRing.{PostState}
use Rattle.mpi_rings.proofs.Posting.{holds, holds_order, holds_waiting, read_leaves}
use Rattle.mpi_rings.proofs.post_ring.PostRing.mark_read.Goals as goal

pub invariant_of-self : goal.invariant_of-self
invariant_of-self c =
    let some = subst (λ (s : PostState). 0 < length s.waiting) (sym c.self.view_is) c.requires in
    rw (c.from.ensures, c.after-self-inside.ensures) (holds_order _ _ _ _ (read_leaves _ _ _ _ (holds _ _ _ c.self.invariant) some))

pub returns-clause-read : goal.returns-clause-read
returns-clause-read c =
    let some = subst (λ (s : PostState). 0 < length s.waiting) (sym c.self.view_is) c.requires in
    rw (c.from.ensures, c.after-self-inside.ensures, ← c.self.view_is)
    (ap (λ ws. record { waiting = ws; host_index = (c.self.inside.host_index + 1) % 352 }) (holds_waiting _ _ _ _ (read_leaves _ _ _ _ (holds _ _ _ c.self.invariant) some)))
