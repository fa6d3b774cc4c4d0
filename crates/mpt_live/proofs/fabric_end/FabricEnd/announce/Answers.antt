use Rattle.std.proofs.Common.{refl}
use Rattle.mpt_rules.specs.Session.OpenCases.{FabricCase, fabric_does}
use Rattle.mpt_live.proofs.FabricKeeps.{fabric_books, if_makes}
use Rattle.mpt_live.proofs.Led.{if_moved}
use Rattle.mpt_live.proofs.fabric_end.FabricEnd.announce.Goals as goal

pub returns : goal.returns
returns c = if_moved fabric_does fabric_books c.announce.result _ c.args.self.now _ c.self.view_is (if_makes _ _ _ _ c.announce.result FabricCase.Says tt c.announce.ensures.made refl)
