use Rattle.std.proofs.Common.{Ok, ap}
use Rattle.mpi_layout.proofs.Moves.{Stands-same, read_fits, read_stands}
use Rattle.event_msgs.specs.EventAck.{event_ack_layout, event_ack_values}
use Rattle.event_msgs.proofs.EventAckFields.{event_ack_values-injective}
use Rattle.event_msgs.proofs.event_ack.decode_event_ack.Goals as goal

pub returns-clause-read : goal.returns-clause-read
returns-clause-read c =
    read_stands event_ack_layout c.layout.result c.args.bytes.now c.in_ok-values.values (event_ack_values c.from_values.result) c.layout.ensures c.in_ok-values.ensures.exact c.in_ok-values.ensures.fitting c.from_values.ensures

pub returns-clause-only : goal.returns-clause-only
returns-clause-only c =
    let stands = read_stands event_ack_layout c.layout.result c.args.bytes.now c.in_ok-values.values (event_ack_values c.from_values.result) c.layout.ensures c.in_ok-values.ensures.exact c.in_ok-values.ensures.fitting c.from_values.ensures in
    λ m other. ap Ok (event_ack_values-injective c.from_values.result m (Stands-same event_ack_layout (event_ack_values c.from_values.result) (event_ack_values m) c.args.bytes.now stands other))

pub returns-clause-fitting : goal.returns-clause-fitting
returns-clause-fitting c =
    read_fits event_ack_layout c.layout.result c.args.bytes.now c.in_ok-values.values (event_ack_values c.from_values.result) c.layout.ensures c.in_ok-values.ensures.exact c.in_ok-values.ensures.fitting c.from_values.ensures
