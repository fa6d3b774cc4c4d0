use Rattle.std.proofs.Common.{refl}
use Rattle.mpt_rules.specs.Fabric.Calls.{oldest}
use Rattle.mpt_rules.specs.Session.OpenCases.{fabric_does}
use Rattle.mpt_live.proofs.FabricKeeps.{fabric_books, if_runs}
use Rattle.mpt_live.proofs.Led.{if_moved}
use Rattle.mpt_live.proofs.fabric_end.FabricEnd.run_oldest.Goals as goal

pub returns : goal.returns
returns c =
    if_moved fabric_does fabric_books c.run_oldest.result _ c.args.self.now _ c.self.view_is
    (if_runs _ _ _ _ c.run_oldest.result (oldest c.self.inside.recorded.part) c.run_oldest.ensures refl)
