use Rattle.std.proofs.Common.{◌∙◌}
use Rattle.ioc_replies.proofs.Boxes.{all_items}
use Rattle.ioc_replies.proofs.outboxes.Outboxes.is_empty.Goals as goal

pub returns : goal.returns
returns c = rw (← c.self.view_is) (c.all_empty.ensures ∙ rw c.deref.ensures.value (all_items c.self.inside.boxes.items))
