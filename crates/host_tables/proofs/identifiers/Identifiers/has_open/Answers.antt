use Rattle.std.proofs.Common.{sym, arith}
use Rattle.host_tables.proofs.SlotTables.{none_open}
use Rattle.host_tables.proofs.identifiers.Identifiers.has_open.Goals as goal

pub returns : goal.returns
returns c =
    rw (← c.self.view_is)
    (sym (none_open c.self.inside.pool (λ k within. c.loop-place.invariant k (omega (arith, within, c.self.invariant.1, c.loop-place-test.false)))))
