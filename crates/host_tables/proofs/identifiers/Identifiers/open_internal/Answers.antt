use Rattle.std.proofs.Common.{arith}
use Rattle.smid_pool.specs.declared.class.Class.TheVariants.{Internal}
use Rattle.host_tables.proofs.SlotTables.{least_opened, sorted_opened}
use Rattle.host_tables.proofs.identifiers.Identifiers.open_internal.Goals as goal

pub invariant_of-self : goal.invariant_of-self
invariant_of-self c =
    sorted_opened c.open.result c.self.inside.pool c.open.new.self Internal c.args.request c.open.ensures.opened c.open.ensures.in_class c.open.ensures.stays
    (λ smid within internal. (omega (arith, within.0), omega (arith, within.1))) c.self.invariant

pub returns-clause-least : goal.returns-clause-least
returns-clause-least c =
    rw (c.ok.ensures.value, ← c.self.view_is) (least_opened c.open.result c.self.inside.pool Internal c.open.ensures.least c.open.ensures.none_free)
