use Rattle.std.proofs.Common.{◌≡◌, ◌∙◌, ap, map, refl, replicate}
use Rattle.mpi_rings.specs.PostRing.{all_unused}
use Rattle.host_tables.specs.Rings.{index_of}
use Rattle.host_tables.proofs.RingLists.{map-replicate}
use Rattle.host_tables.proofs.reply_rings.ReplyRings.new.Goals as goal

pub returns : goal.returns
returns c =
    let indices : map index_of c.in_ok-rings.rings.items ≡ replicate c.args.queues 0 = ap (map index_of) c.in_ok-rings.ensures ∙ map-replicate index_of c.args.queues all_unused in
    rw (indices, c.in_ok-marks.ensures, c.from.ensures) refl
