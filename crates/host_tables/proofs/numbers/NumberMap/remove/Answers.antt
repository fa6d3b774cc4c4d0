use Rattle.std.specs.FinMap as map
use Rattle.host_tables.proofs.NumberMaps.{remove-with_newest, settled-remove}
use Rattle.host_tables.proofs.numbers.NumberMap.remove.Goals as goal

pub returns-clause-map : goal.returns-clause-map
returns-clause-map g c =
    rw (settled-remove c.self.inside.settled c.remove.new.self c.args.n c.remove.ensures.updates.0, c.without.ensures, c.take-newest.ensures.value, ← c.self.view_is)
    (remove-with_newest c.self.inside.newest (map.from_entries c.self.inside.settled.entries) c.args.n)
