use Rattle.std.proofs.Common.{◌∙◌, ◌+◌, ◌*◌, ap}
use Rattle.mpt_wire.specs.Messages.Fields.{change_at}
use Rattle.host_reading.proofs.Framed.{change_framed}
use Rattle.host_reading.proofs.heard.HeardReply.change_at.Goals as goal

pub returns : goal.returns
returns c =
    rw (← c.self.view_is)
    (c.change_at.ensures ∙ ap (λ bytes. change_at bytes (0x28 + 4 * c.args.place)) c.bytes_of_reply.ensures ∙ change_framed c.self.inside.frame (0x28 + 4 * c.args.place))
