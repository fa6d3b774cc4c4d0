use Rattle.mpt_rules.specs.Session.OpenCases.{host_does}
use Rattle.mpt_live.proofs.HostKeeps.{host_books}
use Rattle.mpt_live.proofs.Led.{led_nowhere, led_on}
use Rattle.mpt_live.proofs.host_end.HostEnd.make_moves.Goals as goal

pub loop-moves-init : goal.loop-moves-init
loop-moves-init g c = led_nowhere host_does host_books c.args.self.now

pub loop-moves-preserved : goal.loop-moves-preserved
loop-moves-preserved g c =
    led_on host_does host_books c.args.self.now c.loop-moves.self c.make_move.new.self c.in_ok-make_move.field-0 c.loop-moves.invariant c.in_ok-make_move.ensures
