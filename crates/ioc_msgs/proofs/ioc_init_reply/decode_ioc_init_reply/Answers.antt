use Rattle.std.proofs.Common.{Ok, ap}
use Rattle.mpi_layout.proofs.Moves.{Stands-same, read_fits, read_stands}
use Rattle.ioc_msgs.specs.IocInitReply.{ioc_init_reply_layout, ioc_init_reply_values}
use Rattle.ioc_msgs.proofs.IocInitReplyFields.{ioc_init_reply_values-injective}
use Rattle.ioc_msgs.proofs.ioc_init_reply.decode_ioc_init_reply.Goals as goal

pub returns-clause-read : goal.returns-clause-read
returns-clause-read c =
    read_stands ioc_init_reply_layout c.layout.result c.args.bytes.now c.in_ok-values.values (ioc_init_reply_values c.from_values.result) c.layout.ensures c.in_ok-values.ensures.exact c.in_ok-values.ensures.fitting c.from_values.ensures

pub returns-clause-only : goal.returns-clause-only
returns-clause-only c =
    let stands = read_stands ioc_init_reply_layout c.layout.result c.args.bytes.now c.in_ok-values.values (ioc_init_reply_values c.from_values.result) c.layout.ensures c.in_ok-values.ensures.exact c.in_ok-values.ensures.fitting c.from_values.ensures in
    λ m other. ap Ok (ioc_init_reply_values-injective c.from_values.result m (Stands-same ioc_init_reply_layout (ioc_init_reply_values c.from_values.result) (ioc_init_reply_values m) c.args.bytes.now stands other))

pub returns-clause-fitting : goal.returns-clause-fitting
returns-clause-fitting c =
    read_fits ioc_init_reply_layout c.layout.result c.args.bytes.now c.in_ok-values.values (ioc_init_reply_values c.from_values.result) c.layout.ensures c.in_ok-values.ensures.exact c.in_ok-values.ensures.fitting c.from_values.ensures
