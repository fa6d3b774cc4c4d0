use Rattle.std.proofs.Common.{◌≡◌, Some, sym, refl}
use Rattle.host_tables.proofs.NumberMaps.{settled-insert}
use Rattle.host_tables.proofs.numbers.NumberMap.make_room.Goals as goal

pub returns-in-Ok-clause-same : goal.returns-in-Ok-clause-same
returns-in-Ok-clause-same g c =
    let moved = settled-insert c.self.inside.settled c.insert.new.self c.in-Some.n c.in-Some.value c.in-Ok.ensures.updates.0 in
    let newest : c.self.inside.newest ≡ Some (c.in-Some.n, c.in-Some.value) = sym c.in-Some.ensures.value in
    rw (c.in-Some.ensures.after, ← c.self.view_is, newest, moved) refl
