use Rattle.std.proofs.Common.{refl}
use Rattle.mpt_rules.specs.Session.OpenCases.{fabric_does}
use Rattle.mpt_live.proofs.FabricKeeps.{fabric_books, if_puts}
use Rattle.mpt_live.proofs.Led.{if_moved}
use Rattle.mpt_live.proofs.fabric_end.FabricEnd.put_back.Goals as goal

pub returns : goal.returns
returns g c = if_moved fabric_does fabric_books c.put_back.result _ c.args.self.now _ c.self.view_is (if_puts _ _ _ _ c.put_back.result c.put_back.ensures.made c.put_back.ensures.given refl)
