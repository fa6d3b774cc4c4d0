use Rattle.mpt_rules.specs.Session.OpenCases.{fabric_does}
use Rattle.mpt_live.proofs.FabricKeeps.{fabric_books}
use Rattle.mpt_live.proofs.Led.{led_by_name, led_on}
use Rattle.mpt_live.proofs.fabric_end.FabricEnd.make_moves.Goals as goal

pub loop-moves-init : goal.loop-moves-init
loop-moves-init g c = led_by_name fabric_does fabric_books _ c.args.self.now c.self.view_is

pub loop-moves-preserved : goal.loop-moves-preserved
loop-moves-preserved g c =
    led_on fabric_does fabric_books c.args.self.now c.loop-moves.self c.make_move.new.self c.in_ok-make_move.field-0 c.loop-moves.invariant c.in_ok-make_move.ensures
