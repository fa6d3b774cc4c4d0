use Rattle.host_core.proofs.host.Host.target_reset.Goals as goal

pub returns-clause-ok : goal.returns-clause-ok
returns-clause-ok c =
    let least = rw c.make_room.ensures.host at c.put_target_reset.ensures.least in
    rw (← c.in_ok-handle.ensures.refused, c.in_ok-handle.ensures.handle, least) (rw c.make_room.ensures.host at c.put_target_reset.ensures.host)
