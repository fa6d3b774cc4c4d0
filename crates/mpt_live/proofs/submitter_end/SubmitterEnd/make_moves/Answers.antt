use Rattle.mpt_live.proofs.Submitters.{goes_nowhere, goes_on}
use Rattle.mpt_live.proofs.submitter_end.SubmitterEnd.make_moves.Goals as goal

pub loop-moves-init : goal.loop-moves-init
loop-moves-init g c = goes_nowhere c.args.self.now

pub loop-moves-preserved : goal.loop-moves-preserved
loop-moves-preserved g c =
    goes_on c.args.self.now c.loop-moves.self c.make_move.new.self c.in_ok-make_move.field-0 c.loop-moves.invariant c.in_ok-make_move.ensures.made c.in_ok-make_move.ensures.number
