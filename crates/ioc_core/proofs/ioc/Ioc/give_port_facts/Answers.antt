use Rattle.std.proofs.Common.{refl}
use Rattle.mpt_wire.specs.Messages.Fields.{port_number_in}
use Rattle.mpt_messages.specs.declared.ioc_reply.IocReply.TheVariants as reply
use Rattle.mpt_rules.specs.Ioc.Registers.{port_facts_status}
use Rattle.ioc_core.proofs.Answered.{reply_same}
use Rattle.ioc_core.proofs.ioc.Ioc.give_port_facts.Goals as goal

pub returns-clause-part : goal.returns-clause-part
returns-clause-part c =
    reply_same c.args.self.now.part c.answer_handshake.new.self.part (reply.PortFacts c.byte_at-port.result c.port_facts_status-status.result)
    (reply.PortFacts (port_number_in c.args.message.now) (port_facts_status c.args.message.now))
    c.answer_handshake.ensures.part (rw (c.byte_at-port.ensures.field, c.port_facts_status-status.ensures) refl)
