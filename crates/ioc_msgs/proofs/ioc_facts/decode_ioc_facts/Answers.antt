use Rattle.std.proofs.Common.{Ok, ap}
use Rattle.mpi_layout.proofs.Moves.{Stands-same, read_fits, read_stands}
use Rattle.ioc_msgs.specs.IocFacts.{ioc_facts_layout, ioc_facts_values}
use Rattle.ioc_msgs.proofs.IocFactsFields.{ioc_facts_values-injective}
use Rattle.ioc_msgs.proofs.ioc_facts.decode_ioc_facts.Goals as goal

pub returns-clause-read : goal.returns-clause-read
returns-clause-read c =
    read_stands ioc_facts_layout c.layout.result c.args.bytes.now c.in_ok-values.values (ioc_facts_values c.from_values.result) c.layout.ensures c.in_ok-values.ensures.exact c.in_ok-values.ensures.fitting c.from_values.ensures

pub returns-clause-only : goal.returns-clause-only
returns-clause-only c =
    let stands = read_stands ioc_facts_layout c.layout.result c.args.bytes.now c.in_ok-values.values (ioc_facts_values c.from_values.result) c.layout.ensures c.in_ok-values.ensures.exact c.in_ok-values.ensures.fitting c.from_values.ensures in
    λ m other. ap Ok (ioc_facts_values-injective c.from_values.result m (Stands-same ioc_facts_layout (ioc_facts_values c.from_values.result) (ioc_facts_values m) c.args.bytes.now stands other))

pub returns-clause-fitting : goal.returns-clause-fitting
returns-clause-fitting c =
    read_fits ioc_facts_layout c.layout.result c.args.bytes.now c.in_ok-values.values (ioc_facts_values c.from_values.result) c.layout.ensures c.in_ok-values.ensures.exact c.in_ok-values.ensures.fitting c.from_values.ensures
