use Rattle.std.proofs.Common.{◌≡◌, ◌++◌, length}
use Rattle.mpt_system.proofs.told.write_host_told.Given as goal

abbrev pub invariant-loop-host : goal.invariant-loop-host
invariant-loop-host l = record {
  all : l.trace.entries ++ l.host.told ≡ l.fn.trace.entries ++ l.fn.host.told;
  host : l.host.host ≡ l.fn.host.host;
}

abbrev pub decreases-loop-host : goal.decreases-loop-host
decreases-loop-host l = length l.host.told
