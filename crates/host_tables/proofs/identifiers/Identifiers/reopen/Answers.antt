use Rattle.std.proofs.Common.{◌∙◌, ap}
use Rattle.smid_pool.specs.Pool.{Open}
use Rattle.host_tables.specs.Slots.{is_internal}
use Rattle.host_tables.proofs.SlotTables.{open_above_zero, same_request, size_with, sorted_with}
use Rattle.host_tables.proofs.identifiers.Identifiers.reopen.Goals as goal

pub invariant_of-self : goal.invariant_of-self
invariant_of-self c =
    rw c.reopen.ensures.reopened (
      sorted_with c.self.inside.pool c.args.smid (Open c.args.request) (open_above_zero c.self.inside.pool c.args.smid (rw (← c.self.view_is) at c.requires.open_now))
          (λ r is internal. c.requires.class (ap is_internal (same_request c.args.request r is) ∙ internal)) c.self.invariant.0,
      size_with c.self.inside.pool c.args.smid (Open c.args.request) c.self.invariant.1,
    )
