use Rattle.mpt_wire.specs.Fits.Lines.{Steps}
use Rattle.mpt_system.proofs.Turns.{halted_turn, turn_made}
use Rattle.mpt_replay.proofs.carrying.make_step.Goals as goal

pub returns-in-Ok : goal.returns-in-Ok
returns-in-Ok c = turn_made c.args.system.now c.step.new.self (Steps c.args.choice) c.in-Ok.ensures.1

pub returns-in-Err-Idle : goal.returns-in-Err-Idle
returns-in-Err-Idle c =
    let idle = rw c.in-Err-Idle.field-0-is at c.in-Err-Idle.ensures in turn_made c.args.system.now c.step.new.self (Steps c.args.choice) idle.1

pub returns-in-Err-OutOfMemory : goal.returns-in-Err-OutOfMemory
returns-in-Err-OutOfMemory c =
    let halted = rw c.in-Err-OutOfMemory.field-0-is at c.in-Err-OutOfMemory.ensures in halted_turn c.args.system.now c.step.new.self (Steps c.args.choice) halted
