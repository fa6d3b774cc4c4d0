use Rattle.std.proofs.Common.{◌∙◌, ap}
use Rattle.mpt_rules.specs.Host.Replies.{address_read}
use Rattle.host_reading.proofs.Framed.{address_framed}
use Rattle.host_reading.proofs.heard.HeardReply.address.Goals as goal

pub returns : goal.returns
returns c =
    rw (← c.self.view_is)
    (c.address_read.ensures ∙ ap (λ bytes. address_read bytes c.as_slice.result.now) c.bytes_of_reply.ensures
    ∙ address_framed c.self.inside.frame c.as_slice.result.now
    ∙ ap (address_read _) c.as_slice.ensures.value)
