use Rattle.std.proofs.Common.{sym, arith}
use Rattle.mpt_system.proofs.RoundsMade.{all_count, all_made, none_made, on_err, one_more, still, still_count, wanted}
use Rattle.mpt_system.proofs.system.System.make_rounds.Goals as goal

pub loop-rounds-init : goal.loop-rounds-init
loop-rounds-init c = none_made c.args.self.now c.args.most c.requires

pub loop-rounds-preserved : goal.loop-rounds-preserved
loop-rounds-preserved c =
    one_more c.args.self.now c.loop-rounds.self c.round.new.self c.args.most c.loop-rounds.rounds c.loop-rounds.invariant c.loop-rounds-test.true
    (sym c.if-quiet.ensures) c.in_ok-round.ensures

pub returns-then-quiet-clause-ok : goal.returns-then-quiet-clause-ok
returns-then-quiet-clause-ok c = still c.args.self.now c.loop-rounds.self c.args.most c.loop-rounds.rounds c.loop-rounds.invariant (sym c.if-quiet.ensures)

pub returns-then-quiet-clause-rounds : goal.returns-then-quiet-clause-rounds
returns-then-quiet-clause-rounds c = still_count c.args.self.now c.loop-rounds.self c.args.most c.loop-rounds.rounds c.loop-rounds.invariant (sym c.if-quiet.ensures)

pub returns-in_err-round-clause-memory : goal.returns-in_err-round-clause-memory
returns-in_err-round-clause-memory c =
    on_err c.from_residual.result _ (wanted c.args.self.now c.loop-rounds.self c.round.new.self c.args.most c.loop-rounds.rounds c.loop-rounds.invariant c.in_err-round.ensures)

pub returns-clause-ok : goal.returns-clause-ok
returns-clause-ok c = all_made c.args.self.now c.loop-rounds.self c.args.most c.loop-rounds.rounds c.loop-rounds.invariant (omega arith)

pub returns-clause-rounds : goal.returns-clause-rounds
returns-clause-rounds c = all_count c.args.self.now c.loop-rounds.self c.args.most c.loop-rounds.rounds c.loop-rounds.invariant (omega arith)
