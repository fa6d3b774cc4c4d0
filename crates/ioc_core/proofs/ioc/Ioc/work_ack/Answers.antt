use Rattle.std.proofs.Common.{◌∙◌, sym}
use Rattle.ioc_core.proofs.Works.{acked, not_acked}
use Rattle.ioc_core.proofs.ioc.Ioc.work_ack.Goals as goal

pub returns-then-is_of_event-clause-part : goal.returns-then-is_of_event-clause-part
returns-then-is_of_event-clause-part c =
    rw (c.end_ack.ensures.part, c.forget_context.ensures.part, c.smid_of.ensures)
    (sym (acked c.args.self.now.part c.args.post.now c.args.ack.now c.requires.stands (sym c.is_of_event.ensures ∙ c.if-is_of_event.true)))

pub returns-else-is_of_event-clause-part : goal.returns-else-is_of_event-clause-part
returns-else-is_of_event-clause-part c =
    rw (c.end_ack-else-is_of_event.ensures.part, c.smid_of-else-is_of_event.ensures)
    (sym (not_acked c.args.self.now.part c.args.post.now c.args.ack.now c.requires.stands (sym c.is_of_event.ensures ∙ c.if-is_of_event.false)))
