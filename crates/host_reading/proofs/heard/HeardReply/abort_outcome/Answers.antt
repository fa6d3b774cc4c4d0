use Rattle.std.proofs.Common.{◌∙◌, ap}
use Rattle.mpt_rules.specs.Host.Replies.{abort_outcome}
use Rattle.host_reading.proofs.Framed.{abort_framed}
use Rattle.host_reading.proofs.heard.HeardReply.abort_outcome.Goals as goal

pub returns : goal.returns
returns c = rw (← c.self.view_is) (c.abort_outcome.ensures ∙ ap abort_outcome c.bytes_of_reply.ensures ∙ abort_framed c.self.inside.frame)
