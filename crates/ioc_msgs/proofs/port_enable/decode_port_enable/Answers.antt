use Rattle.std.proofs.Common.{Ok, ap}
use Rattle.mpi_layout.proofs.Moves.{Stands-same, read_fits, read_stands}
use Rattle.ioc_msgs.specs.PortEnable.{port_enable_layout, port_enable_values}
use Rattle.ioc_msgs.proofs.PortEnableFields.{port_enable_values-injective}
use Rattle.ioc_msgs.proofs.port_enable.decode_port_enable.Goals as goal

pub returns-clause-read : goal.returns-clause-read
returns-clause-read c =
    read_stands port_enable_layout c.layout.result c.args.bytes.now c.in_ok-values.values (port_enable_values c.from_values.result) c.layout.ensures c.in_ok-values.ensures.exact c.in_ok-values.ensures.fitting c.from_values.ensures

pub returns-clause-only : goal.returns-clause-only
returns-clause-only c =
    let stands = read_stands port_enable_layout c.layout.result c.args.bytes.now c.in_ok-values.values (port_enable_values c.from_values.result) c.layout.ensures c.in_ok-values.ensures.exact c.in_ok-values.ensures.fitting c.from_values.ensures in
    λ m other. ap Ok (port_enable_values-injective c.from_values.result m (Stands-same port_enable_layout (port_enable_values c.from_values.result) (port_enable_values m) c.args.bytes.now stands other))

pub returns-clause-fitting : goal.returns-clause-fitting
returns-clause-fitting c =
    read_fits port_enable_layout c.layout.result c.args.bytes.now c.in_ok-values.values (port_enable_values c.from_values.result) c.layout.ensures c.in_ok-values.ensures.exact c.in_ok-values.ensures.fitting c.from_values.ensures
