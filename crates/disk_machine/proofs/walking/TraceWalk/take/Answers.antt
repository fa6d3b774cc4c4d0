use Rattle.mpt_wire.specs.Walks.Ahead.{next_own}
use Rattle.disk_machine.proofs.walking.TraceWalk.take.Goals as goal

pub returns : goal.returns
returns c =
    λ m g accords.
    let followed = c.in_ok-follow.ensures m g accords in
    (followed.0, c.in_ok-hear.ensures g (next_own c.args.entry.now c.args.later.now) followed.1)
