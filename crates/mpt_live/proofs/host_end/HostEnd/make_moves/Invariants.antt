use Rattle.mpt_rules.specs.Session.OpenCases.{host_does}
use Rattle.mpt_live.proofs.HostKeeps.{host_books}
use Rattle.mpt_live.proofs.Led.{IsLed}
use Rattle.mpt_live.proofs.host_end.HostEnd.make_moves.Given as goal

abbrev pub invariant-loop-moves : goal.invariant-loop-moves
invariant-loop-moves g l = IsLed host_does host_books l.fn.self l.self
