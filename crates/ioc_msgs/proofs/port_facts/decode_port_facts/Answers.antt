use Rattle.std.proofs.Common.{Ok, ap}
use Rattle.mpi_layout.proofs.Moves.{Stands-same, read_fits, read_stands}
use Rattle.ioc_msgs.specs.PortFacts.{port_facts_layout, port_facts_values}
use Rattle.ioc_msgs.proofs.PortFactsFields.{port_facts_values-injective}
use Rattle.ioc_msgs.proofs.port_facts.decode_port_facts.Goals as goal

pub returns-clause-read : goal.returns-clause-read
returns-clause-read c =
    read_stands port_facts_layout c.layout.result c.args.bytes.now c.in_ok-values.values (port_facts_values c.from_values.result) c.layout.ensures c.in_ok-values.ensures.exact c.in_ok-values.ensures.fitting c.from_values.ensures

pub returns-clause-only : goal.returns-clause-only
returns-clause-only c =
    let stands = read_stands port_facts_layout c.layout.result c.args.bytes.now c.in_ok-values.values (port_facts_values c.from_values.result) c.layout.ensures c.in_ok-values.ensures.exact c.in_ok-values.ensures.fitting c.from_values.ensures in
    λ m other. ap Ok (port_facts_values-injective c.from_values.result m (Stands-same port_facts_layout (port_facts_values c.from_values.result) (port_facts_values m) c.args.bytes.now stands other))

pub returns-clause-fitting : goal.returns-clause-fitting
returns-clause-fitting c =
    read_fits port_facts_layout c.layout.result c.args.bytes.now c.in_ok-values.values (port_facts_values c.from_values.result) c.layout.ensures c.in_ok-values.ensures.exact c.in_ok-values.ensures.fitting c.from_values.ensures
