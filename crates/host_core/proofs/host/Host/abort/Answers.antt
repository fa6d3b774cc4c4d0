use Rattle.std.proofs.Common.{◌∙◌}
use Rattle.host_core.proofs.host.Host.abort.Goals as goal

pub returns-clause-ok : goal.returns-clause-ok
returns-clause-ok c =
    let same = c.make_room.ensures.host ∙ c.make_abort_room.ensures.host in
    let least = rw same at c.put_abort.ensures.least in
    rw (← c.in_ok-command.ensures.refused, c.in_ok-command.ensures.command, least) (rw same at c.put_abort.ensures.host)
