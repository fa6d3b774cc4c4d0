use Rattle.std.proofs.Common.{refl, true}
use Rattle.mpt_rules.specs.Session.OpenCases.{HostCase, host_does}
use Rattle.mpt_live.proofs.HostKeeps.{host_books, makes_case}
use Rattle.mpt_live.proofs.Led.{moved_from}
use Rattle.mpt_live.proofs.host_end.HostEnd.do_line.Goals as goal

pub returns : goal.returns
returns c = moved_from host_does host_books _ c.args.self.now _ _ true c.self.view_is (makes_case _ _ _ _ (HostCase.Told c.in-Some.line) true tt c.in_ok-input.ensures refl)
