use Rattle.mpt_system.specs.Parties.{whole_of}
use Rattle.mpt_system.proofs.Queues.{reached_phases}
use Rattle.mpt_system.proofs.system.System.parts_summary.Goals as goal

pub phases_summary-requires : goal.phases_summary-requires
phases_summary-requires c = reached_phases (whole_of c.self.inside.parties).world (whole_of c.self.inside.parties).entries c.self.invariant
