use Rattle.std.proofs.Common.{◌≡◌, ◌∙◌, ◌==◌, ◌||◌, not, Bool, true, sym, ap}
use Rattle.mpt_messages.specs.Function.{byte_of}
use Rattle.mpt_wire.specs.Messages.Fields.{function_in}
use Rattle.host_reading.specs.Checks.{are_bad_facts_of}
use Rattle.host_reading.proofs.Facts.{bad_answer_read, equal_test}
use Rattle.host_reading.proofs.handshake.is_bad_answer.Goals as goal

pub returns-else-function_in-byte_of : goal.returns-else-function_in-byte_of
returns-else-function_in-byte_of c = λ host count.
    let bad : Bool = are_bad_facts_of c.args.queues c.args.message.now in
    let same : (function_in c.args.bytes.now == byte_of c.args.function) ≡ true = equal_test _ _ (sym c.function_in.ensures ∙ c.if-function_in-byte_of.false ∙ c.byte_of.ensures) in
    c.are_bad_facts.ensures ∙ ap (λ (b : Bool). not b || bad) (sym same)
    ∙ bad_answer_read host c.args.bytes.now c.args.function c.args.message.now c.args.queues count c.requires.reply c.requires.read
