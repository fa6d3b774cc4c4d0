use Rattle.smid_pool.specs.declared.class.Class.TheVariants.{High}
use Rattle.host_tables.proofs.SlotTables.{least_opened, sorted_opened}
use Rattle.host_tables.proofs.identifiers.Identifiers.open_high.Goals as goal

pub invariant_of-self : goal.invariant_of-self
invariant_of-self c =
    sorted_opened c.open.result c.self.inside.pool c.open.new.self High c.args.request c.open.ensures.opened c.open.ensures.in_class c.open.ensures.stays
    (λ smid within internal. absurd (let e = c.requires in cc)) c.self.invariant

pub returns-clause-least : goal.returns-clause-least
returns-clause-least c =
    rw (c.ok.ensures.value, ← c.self.view_is) (least_opened c.open.result c.self.inside.pool High c.open.ensures.least c.open.ensures.none_free)
