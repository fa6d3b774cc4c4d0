use Rattle.mpt_system.proofs.Lists.{nothing_left}
use Rattle.mpt_system.proofs.told.write_host_told.Goals as goal

pub returns-in_default-clause-ok : goal.returns-in_default-clause-ok
returns-in_default-clause-ok c = nothing_left _ _ c.in_default.ensures.first c.in_default.ensures.rest
