use Rattle.host_reading.proofs.Framed.{list_framed}
use Rattle.host_reading.proofs.heard.HeardReply.count_changes.Goals as goal

pub returns-clause-count : goal.returns-clause-count
returns-clause-count c =
    rw (← c.self.view_is)
    (list_framed c.self.inside.frame c.count_changes.result (rw c.bytes_of_reply.ensures at c.count_changes.ensures.count))
