use Rattle.std.proofs.Common.{sym, refl}
use Rattle.host_tables.proofs.NumberSets.{contains-settled, contains-with_newest}
use Rattle.std.specs.FinSet as set
use Rattle.host_tables.proofs.number_set.NumberSet.contains.Goals as goal

pub returns-then-is_that : goal.returns-then-is_that
returns-then-is_that c =
    rw (← c.self.view_is, contains-with_newest c.self.inside.newest (set.from_list c.self.inside.settled.keys) c.args.n, ← c.is_that.ensures, c.if-is_that.true) refl

pub returns-else-is_that : goal.returns-else-is_that
returns-else-is_that c =
    rw (← c.self.view_is, contains-with_newest c.self.inside.newest (set.from_list c.self.inside.settled.keys) c.args.n, ← c.is_that.ensures, c.if-is_that.false, c.contains.ensures) (sym (contains-settled c.self.inside.settled.keys c.args.n))
