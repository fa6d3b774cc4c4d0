use Rattle.std.proofs.Common.{arith}
use Rattle.smid_pool.proofs.VacantBits.{inserted_here, inserted_others}
use Rattle.smid_pool.proofs.vacant_set.VacantSet.insert.Goals as goal

pub returns : goal.returns
returns c = record {
  here = inserted_here c.args.self.now.words c.args.place (omega arith);
  others = inserted_others c.args.self.now.words c.args.place (omega arith);
}
