use Rattle.std.proofs.Common.{◌≤◌, length, subst, arith}
use Rattle.mpt_cli.specs.Answer.{IsAnswer}
use Rattle.mpt_cli.specs.declared.run.TheConstants.{MOST_BYTES}
use Rattle.mpt_cli.specs.Run.{Writes}
use Rattle.mpt_cli.proofs.Due.{answered_run}
use Rattle.mpt_cli.proofs.run.run_answer.Goals as goal

pub returns-in-Ok-answer_to : goal.returns-in-Ok-answer_to
returns-in-Ok-answer_to g c =
    let answer = subst (λ input. IsAnswer c.args.question input c.in-Ok-answer_to.answer.status c.in-Ok-answer_to.answer.text) c.deref.ensures.value c.in-Ok-answer_to.ensures in
    let written = subst (λ text. Writes (g.K.Sink.taken c.args.sink.now) (g.K.Sink.taken c.finish-in-Ok-answer_to.new.sink) (g.K.Sink.faults c.args.sink.now) (g.K.Sink.faults c.finish-in-Ok-answer_to.new.sink) c.in-Ok-answer_to.answer.status text c.finish-in-Ok-answer_to.result) c.as_bytes.ensures c.finish-in-Ok-answer_to.ensures in
    let short : length c.in-Ok.input.items ≤ MOST_BYTES = omega (arith, c.in-Ok.ensures.short, c.in-Ok.input.ok) in
    answered_run c.args.question _ c.in-Ok.input.items c.in-Ok-answer_to.answer.text c.in-Ok-answer_to.answer.status c.finish-in-Ok-answer_to.result (record { gave = c.in-Ok.ensures.all; end = c.in-Ok.ensures.end; short = short; spared = c.in-Ok.ensures.steady }) answer written
