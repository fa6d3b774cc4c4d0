use Rattle.mpt_rules.specs.Session.OpenCases.{ioc_does}
use Rattle.mpt_live.proofs.IocKeeps.{ioc_books}
use Rattle.mpt_live.proofs.Led.{led_nowhere, led_on}
use Rattle.mpt_live.proofs.ioc_end.IocEnd.make_moves.Goals as goal

pub loop-moves-init : goal.loop-moves-init
loop-moves-init g c = led_nowhere ioc_does ioc_books c.args.self.now

pub loop-moves-preserved : goal.loop-moves-preserved
loop-moves-preserved g c =
    led_on ioc_does ioc_books c.args.self.now c.loop-moves.self c.make_move.new.self c.in_ok-make_move.field-0 c.loop-moves.invariant c.in_ok-make_move.ensures
