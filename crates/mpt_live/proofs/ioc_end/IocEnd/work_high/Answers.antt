use Rattle.std.proofs.Common.{refl}
use Rattle.mpt_rules.specs.Session.OpenCases.{WorksHigh, ioc_does}
use Rattle.mpt_live.proofs.IocKeeps.{if_works, ioc_books}
use Rattle.mpt_live.proofs.Led.{if_moved}
use Rattle.mpt_live.proofs.ioc_end.IocEnd.work_high.Goals as goal

pub returns : goal.returns
returns c = if_moved ioc_does ioc_books c.work_high.result _ c.args.self.now _ c.self.view_is (if_works _ _ _ _ c.work_high.result WorksHigh tt c.work_high.ensures refl)
