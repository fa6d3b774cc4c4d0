use Rattle.std.proofs.Common.{◌∙◌, ap}
use Rattle.mpt_wire.specs.Messages.Fields.{event_context_in}
use Rattle.host_reading.proofs.Framed.{context_framed}
use Rattle.host_reading.proofs.heard.HeardReply.event_context.Goals as goal

pub returns : goal.returns
returns c = rw (← c.self.view_is) (c.event_context_of.ensures ∙ ap event_context_in c.bytes_of_reply.ensures ∙ context_framed c.self.inside.frame)
