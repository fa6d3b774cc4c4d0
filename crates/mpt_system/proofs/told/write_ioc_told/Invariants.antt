use Rattle.std.proofs.Common.{◌≡◌, ◌++◌, length}
use Rattle.mpt_system.proofs.told.write_ioc_told.Given as goal

abbrev pub invariant-loop-ioc : goal.invariant-loop-ioc
invariant-loop-ioc l = record {
  all : l.trace.entries ++ l.ioc.told ≡ l.fn.trace.entries ++ l.fn.ioc.told;
  part : l.ioc.part ≡ l.fn.ioc.part;
}

abbrev pub decreases-loop-ioc : goal.decreases-loop-ioc
decreases-loop-ioc l = length l.ioc.told
