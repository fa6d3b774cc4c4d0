use Rattle.std.proofs.Common.{◌≡◌, replicate}
use Rattle.mpi_rings.specs.PostRing.{all_unused}
use Rattle.host_tables.proofs.reply_rings.new_rings.Given as goal

abbrev pub invariant-loop-queue : goal.invariant-loop-queue
invariant-loop-queue l = l.rings.items ≡ replicate l._queue all_unused
