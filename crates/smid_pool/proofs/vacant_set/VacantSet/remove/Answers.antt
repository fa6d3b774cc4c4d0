use Rattle.std.proofs.Common.{arith}
use Rattle.smid_pool.proofs.VacantBits.{removed_here, removed_others}
use Rattle.smid_pool.proofs.vacant_set.VacantSet.remove.Goals as goal

pub returns : goal.returns
returns c = record {
  here = removed_here c.args.self.now.words c.args.place (omega arith);
  others = removed_others c.args.self.now.words c.args.place (omega arith);
}
