use Rattle.mpt_rules.specs.Session.OpenCases.{host_does}
use Rattle.mpt_live.proofs.HostKeeps.{host_books}
use Rattle.mpt_live.proofs.Led.{IsLed}
use Rattle.mpt_live.proofs.running.run_host.Given as goal

abbrev pub invariant-loop : goal.invariant-loop
invariant-loop g l = IsLed host_does host_books l.fn.end l.end
