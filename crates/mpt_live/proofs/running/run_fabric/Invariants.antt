use Rattle.mpt_rules.specs.Session.OpenCases.{fabric_does}
use Rattle.mpt_live.proofs.FabricKeeps.{fabric_books}
use Rattle.mpt_live.proofs.Led.{IsLed}
use Rattle.mpt_live.proofs.running.run_fabric.Given as goal

abbrev pub invariant-loop : goal.invariant-loop
invariant-loop g l = IsLed fabric_does fabric_books l.fn.end l.end
