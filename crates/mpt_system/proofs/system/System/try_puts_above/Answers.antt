use Rattle.std.proofs.Common.{ℕ, map, arith}
use Rattle.mpt_trace.specs.declared.choice.Choice.TheVariants as choice
use Rattle.mpt_wire.specs.Fits.Lines.{above}
use Rattle.mpt_system.specs.Turns.{tries_it}
use Rattle.mpt_system.proofs.Turns.{above_all, above_halted, above_more, none_turned, so_far}
use Rattle.mpt_system.proofs.system.System.try_puts_above.Goals as goal

pub loop-queue-init : goal.loop-queue-init
loop-queue-init c = record { place = omega arith; done = none_turned c.args.self.now c.requires }

pub loop-queue-preserved : goal.loop-queue-preserved
loop-queue-preserved c = record {
  place = omega arith;
  done = above_more (λ queue. tries_it (choice.IocPutOn queue)) c.args.self.now c.loop-queue.self c.try_step.new.self c.loop-queue.queue (omega arith) c.loop-queue.invariant.done c.in_ok-try_step.ensures.1;
}

pub returns-in_err-try_step : goal.returns-in_err-try_step
returns-in_err-try_step c =
    let f = λ (queue : ℕ). tries_it (choice.IocPutOn queue) in
    so_far c.args.self.now c.try_step.new.self (map f (above c.args.queues)) c.from_residual.result c.from_residual.ensures.0
    (above_halted f c.args.self.now c.loop-queue.self c.try_step.new.self c.loop-queue.queue (omega arith) c.loop-queue.invariant.done c.args.queues c.loop-queue-test.true
    c.in_err-try_step.ensures)

pub returns : goal.returns
returns c =
    above_all (λ queue. tries_it (choice.IocPutOn queue)) c.args.self.now c.loop-queue.self c.loop-queue.self c.loop-queue.queue (omega arith) c.loop-queue.invariant.done c.args.queues
    c.loop-queue-test.false c.loop-queue.invariant.place
