use Rattle.std.proofs.Common.{refl, true}
use Rattle.mpt_rules.specs.Session.OpenCases.{FabricCase, fabric_does}
use Rattle.mpt_live.proofs.FabricKeeps.{fabric_books, makes_case}
use Rattle.mpt_live.proofs.Led.{moved_from}
use Rattle.mpt_live.proofs.fabric_end.FabricEnd.calm.Goals as goal

pub returns : goal.returns
returns c = moved_from fabric_does fabric_books _ c.args.self.now _ _ true c.self.view_is (makes_case _ _ _ _ FabricCase.Calms true tt c.in_ok-calm.ensures refl)
