use Rattle.std.proofs.Common.{Ok, ap}
use Rattle.mpi_layout.proofs.Moves.{read_stands}
use Rattle.event_msgs.specs.TopologyEntry.{topology_entry_layout, topology_entry_values}
use Rattle.event_msgs.proofs.Entries.{never_refused}
use Rattle.event_msgs.proofs.TopologyEntryFields.{entry_is, entry_no_fault}
use Rattle.event_msgs.proofs.topology_entry.read_entry.Goals as goal

pub returns-in_err-values : goal.returns-in_err-values
returns-in_err-values c =
    absurd (never_refused topology_entry_layout c.layout.result c.args.bytes.now c.in_err-values.field-0.0 c.layout.ensures (entry_no_fault c.args.bytes.now c.requires) c.in_err-values.ensures.exact)

pub returns : goal.returns
returns c =
    let stands = read_stands topology_entry_layout c.layout.result c.args.bytes.now c.in_ok-values.values (topology_entry_values c.from_values.result) c.layout.ensures c.in_ok-values.ensures.exact c.in_ok-values.ensures.fitting c.from_values.ensures in
    ap Ok (entry_is c.from_values.result c.args.bytes.now stands)
