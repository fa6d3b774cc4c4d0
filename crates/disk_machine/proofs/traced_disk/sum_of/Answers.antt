use Rattle.std.proofs.Common.{arith}
use Rattle.disk_machine.proofs.Sums.{byte_sum-next, one_byte}
use Rattle.disk_machine.proofs.traced_disk.sum_of.Goals as goal

pub loop-place-preserved : goal.loop-place-preserved
loop-place-preserved c =
    record {
      so_far = byte_sum-next c.args.bytes.now c.loop-place.place c.loop-place.sum c.from.result (omega arith) c.from.ensures c.loop-place.invariant.so_far;
      bound = omega (arith, one_byte c.loop-place.place c.from.result (omega arith) (omega (arith, c.type_inv.bytes c.loop-place.place, c.from.ensures)), c.loop-place.invariant.bound);
    }
