use Rattle.std.proofs.Common.{refl}
use Rattle.smid_pool.proofs.Marks.{IsMarked-full}
use Rattle.smid_pool.proofs.Slots.{IsSound-fresh}
use Rattle.smid_pool.proofs.pool.Pool.new.Goals as goal

pub invariant_of-result : goal.invariant_of-result
invariant_of-result g c =
    rw c.in_ok-places.ensures
    (record {
      sound = IsSound-fresh c.in_ok-records.records c.in_ok-records.ensures.empty c.in_ok-records.ensures.capacity;
      marked = IsMarked-full c.full.result.words c.full.ensures;
    })

pub returns : goal.returns
returns g c = rw c.in_ok-places.ensures refl
