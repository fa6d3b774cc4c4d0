use Rattle.std.proofs.Common.{◌∙◌, ap}
use Rattle.mpt_wire.specs.Messages.Fields.{termination_count_in}
use Rattle.host_reading.proofs.Framed.{count_framed}
use Rattle.host_reading.proofs.heard.HeardReply.termination_count.Goals as goal

pub returns : goal.returns
returns c = rw (← c.self.view_is) (c.termination_count.ensures ∙ ap termination_count_in c.bytes_of_reply.ensures ∙ count_framed c.self.inside.frame)
