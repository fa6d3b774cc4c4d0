use Rattle.std.proofs.Common.{refl}
use Rattle.std.specs.FinMap as map
use Rattle.host_tables.proofs.NumberMaps.{get-settled, get-with_newest}
use Rattle.host_tables.proofs.numbers.NumberMap.get.Goals as goal

pub returns-in-Some : goal.returns-in-Some
returns-in-Some g c =
    rw (← c.self.view_is, get-with_newest c.self.inside.newest (map.from_entries c.self.inside.settled.entries) c.args.n, ← c.in-Some.ensures) refl

pub returns-in-None : goal.returns-in-None
returns-in-None g c =
    rw (← c.self.view_is, get-with_newest c.self.inside.newest (map.from_entries c.self.inside.settled.entries) c.args.n, ← c.in-None.ensures, c.get.ensures.value) (get-settled c.self.inside.settled c.args.n)
