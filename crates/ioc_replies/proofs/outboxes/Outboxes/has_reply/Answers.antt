use Rattle.std.proofs.Common.{◌∙◌}
use Rattle.ioc_replies.proofs.Boxes.{any_items}
use Rattle.ioc_replies.proofs.outboxes.Outboxes.has_reply.Goals as goal

pub returns : goal.returns
returns c = rw (← c.self.view_is) (c.any_reply.ensures ∙ rw c.deref.ensures.value (any_items c.args.smid c.self.inside.boxes.items))
