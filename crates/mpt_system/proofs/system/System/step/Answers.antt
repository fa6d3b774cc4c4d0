use Rattle.mpt_system.specs.Parties.{whole_of}
use Rattle.mpt_system.specs.Reached.{IsReached}
use Rattle.mpt_system.proofs.Queues.{reached_lanes}
use Rattle.mpt_system.proofs.Reached.{reached_stepped, reached_written}
use Rattle.mpt_system.proofs.system.System.step.Goals as goal
use Rattle.mpt_system.proofs.system.System.step.Goals.{In_ok-write_told}

-- what was told is written
ready : (c : In_ok-write_told) → IsReached c.self.inside.disks.items (whole_of c.write_told.new.self).world (whole_of c.write_told.new.self).entries
ready c = reached_written (whole_of c.self.inside.parties) (whole_of c.write_told.new.self) c.in_ok-write_told.ensures.ok c.self.invariant

pub make_step-requires-clause-lanes : goal.make_step-requires-clause-lanes
make_step-requires-clause-lanes c = reached_lanes _ _ (ready (goal.at.make_step-requires-clause-lanes c).In_ok-write_told)

pub invariant_of-self-2 : goal.invariant_of-self-2
invariant_of-self-2 c =
    reached_stepped (whole_of c.write_told.new.self) (whole_of c.make_step.new.self) c.args.choice c.make_step.result c.make_step.ensures
    (ready (goal.at.invariant_of-self-2 c).In_ok-write_told)
