use Rattle.std.proofs.Common.{◌≡◌, Some, sym, refl}
use Rattle.host_tables.proofs.NumberSets.{settled-added}
use Rattle.host_tables.proofs.number_set.NumberSet.make_room.Goals as goal

pub returns-in-Ok-clause-same : goal.returns-in-Ok-clause-same
returns-in-Ok-clause-same c =
    let moved = settled-added c.self.inside.settled.keys c.insert.new.self.keys c.in-Some.n c.in-Ok.ensures.updates.0 in
    let newest : c.self.inside.newest ≡ Some c.in-Some.n = sym c.in-Some.ensures.value in
    rw (c.in-Some.ensures.after, ← c.self.view_is, newest, moved) refl
