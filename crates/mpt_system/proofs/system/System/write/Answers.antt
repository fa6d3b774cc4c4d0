use Rattle.mpt_system.specs.Parties.{whole_of}
use Rattle.mpt_system.proofs.Reached.{reached_either}
use Rattle.mpt_system.proofs.system.System.write.Goals as goal

pub invariant_of-self : goal.invariant_of-self
invariant_of-self c =
    reached_either (whole_of c.self.inside.parties) (whole_of c.write_told.new.self) c.write_told.result c.write_told.ensures.ok c.write_told.ensures.stays c.self.invariant
