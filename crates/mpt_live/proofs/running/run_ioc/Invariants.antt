use Rattle.mpt_rules.specs.Session.OpenCases.{ioc_does}
use Rattle.mpt_live.proofs.IocKeeps.{ioc_books}
use Rattle.mpt_live.proofs.Led.{IsLed}
use Rattle.mpt_live.proofs.running.run_ioc.Given as goal

abbrev pub invariant-loop : goal.invariant-loop
invariant-loop g l = IsLed ioc_does ioc_books l.fn.end l.end
