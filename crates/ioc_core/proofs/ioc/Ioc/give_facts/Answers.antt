use Rattle.std.proofs.Common.{refl}
use Rattle.mpt_messages.specs.declared.ioc_reply.IocReply.TheVariants as reply
use Rattle.mpt_rules.specs.Ioc.Parts.{ioc_queue_count}
use Rattle.ioc_core.proofs.Answered.{reply_same}
use Rattle.ioc_core.proofs.ioc.Ioc.give_facts.Goals as goal

pub returns-clause-part : goal.returns-clause-part
returns-clause-part c =
    let ioc = c.args.self.now.part in
    reply_same ioc c.answer_handshake.new.self.part (reply.Facts c.who_init-who_init.result c.queue_count-queues.result) (reply.Facts ioc.door.who_init (ioc_queue_count ioc))
    c.answer_handshake.ensures.part (rw (c.who_init-who_init.ensures, c.queue_count-queues.ensures.count) refl)
