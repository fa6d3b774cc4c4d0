use Rattle.std.proofs.Common.{◌∙◌, get_or, refl, sym}
use Rattle.mpt_messages.specs.Function.{function_of}
use Rattle.mpt_messages.specs.Refusal.{request_refusal_as}
use Rattle.mpt_messages.specs.declared.function.Kind.TheVariants as kind
use Rattle.mpt_messages.specs.declared.ioc_reply.IocReply.TheVariants as reply
use Rattle.ioc_core.proofs.Answered.{not_refused, refused_by, reply_same}
use Rattle.ioc_core.proofs.ioc.Ioc.handshake.Goals as goal

pub returns-in-Some-clause-part : goal.returns-in-Some-clause-part
returns-in-Some-clause-part c =
    let message = c.args.message.now in
    refused_by c.args.self.now.part c.answer_plainly.new.self.part message (request_refusal_as kind.Handshake message (function_of (get_or message 3 0))) c.in-Some.status
    (sym c.in-Some.is ∙ c.handshake_refusal.ensures)
    (reply_same c.args.self.now.part c.answer_plainly.new.self.part (reply.Plain c.byte_at.result c.in-Some.status) (reply.Plain (get_or message 3 0) c.in-Some.status) c.answer_plainly.ensures.part (rw c.byte_at.ensures.byte refl))

pub returns-in-None-clause-part : goal.returns-in-None-clause-part
returns-in-None-clause-part c =
    let message = c.args.message.now in
    not_refused c.args.self.now.part c.serve_handshake.new.self.part message (request_refusal_as kind.Handshake message (function_of (get_or message 3 0))) c.handshake_refusal.result
    c.in-None.is c.handshake_refusal.ensures c.serve_handshake.ensures.part
