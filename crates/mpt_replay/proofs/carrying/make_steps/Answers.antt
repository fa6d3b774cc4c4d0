use Rattle.mpt_replay.proofs.Lines.{no_steps, on_wanted, step_more, step_so_far, steps_carried_out}
use Rattle.mpt_wire.specs.Fits.Lines.{Stepped}
use Rattle.std.proofs.Common.{◌∷◌, [], arith}
use Rattle.mpt_replay.proofs.carrying.make_steps.Goals as goal

pub loop-step-init : goal.loop-step-init
loop-step-init c = no_steps c.args.system.now c.args.choice c.requires

pub loop-step-preserved : goal.loop-step-preserved
loop-step-preserved c = step_more c.args.system.now c.loop-step.system c.make_step.new.system c.args.choice c.loop-step._step c.args.count c.loop-step.invariant c.in_ok-make_step.ensures

pub returns-in_err-make_step : goal.returns-in_err-make_step
returns-in_err-make_step c =
    on_wanted c.args.system.now c.make_step.new.system (Stepped c.args.choice c.args.count ∷ []) c.from_residual.result c.from_residual.ensures.0
    (step_so_far c.args.system.now c.loop-step.system c.make_step.new.system c.args.choice c.loop-step._step c.args.count c.loop-step.invariant c.loop-step-test.true c.in_err-make_step.ensures)

pub returns : goal.returns
returns c = steps_carried_out c.args.system.now c.loop-step.system c.args.choice c.loop-step._step c.args.count (omega arith) c.loop-step.invariant
