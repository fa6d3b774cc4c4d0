use Rattle.std.proofs.Common.{◌<◌, length, ap, subst, sym}
use Rattle.mpi_rings.specs.PostRing.{PostState}
use Rattle.mpi_rings.proofs.Posting.{holds, holds_order, holds_waiting, post_holds}
use Rattle.mpi_rings.proofs.post_ring.PostRing.post.Goals as goal

pub invariant_of-self : goal.invariant_of-self
invariant_of-self c =
    let room = subst (λ (s : PostState). length s.waiting < 352) (sym c.self.view_is) c.requires.room in
    rw (c.from.ensures, c.after-self-inside.ensures) (holds_order _ _ _ _ (post_holds _ _ _ _ c.args.d (holds _ _ _ c.self.invariant) room c.requires.used))

pub returns : goal.returns
returns c =
    let room = subst (λ (s : PostState). length s.waiting < 352) (sym c.self.view_is) c.requires.room in
    rw (c.from.ensures, ← c.self.view_is)
    (ap (λ ws. record { waiting = ws; host_index = c.self.inside.host_index }) (holds_waiting _ _ _ _ (post_holds _ _ _ _ c.args.d (holds _ _ _ c.self.invariant) room c.requires.used)))
