use Rattle.mpt_wire.proofs.HandlesOnWire.{handles_on_wire, messages_on_wire, queues_on_wire}
use Rattle.mpt_wire.proofs.Lanes.{lanes_in_order}
use Rattle.mpt_wire.proofs.LeastFree.{least_are_accepted}
use Rattle.mpt_wire.proofs.PathRules.{paths_kept}
use Rattle.mpt_wire.proofs.TiesOnWire.{ties_on_wire}
use Rattle.mpt_wire.proofs.Views.{view_is_run}
use Rattle.mpt_wire.proofs.WireCycles.{frames_in_cycles, identifiers_in_cycles}
use Rattle.mpt_wire.proofs.laws.passing_keeps_the_rules.Goals as goal

pub returns : goal.returns
returns c =
    record {
      lanes = lanes_in_order;
      identifiers = identifiers_in_cycles;
      least = least_are_accepted;
      frames = frames_in_cycles;
      handles = handles_on_wire;
      queues = queues_on_wire;
      messages = messages_on_wire;
      paths = paths_kept;
      ties = ties_on_wire;
      disks = view_is_run;
    }
