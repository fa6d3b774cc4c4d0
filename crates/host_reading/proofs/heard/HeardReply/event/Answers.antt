use Rattle.std.proofs.Common.{◌∙◌, ap}
use Rattle.mpt_wire.specs.Messages.Fields.{event_in}
use Rattle.host_reading.proofs.Framed.{event_framed}
use Rattle.host_reading.proofs.heard.HeardReply.event.Goals as goal

pub returns : goal.returns
returns c = rw (← c.self.view_is) (c.event_of.ensures ∙ ap event_in c.bytes_of_reply.ensures ∙ event_framed c.self.inside.frame)
