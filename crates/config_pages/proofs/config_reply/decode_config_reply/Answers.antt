use Rattle.std.proofs.Common.{Ok, ap}
use Rattle.mpi_layout.proofs.Moves.{Stands-same, read_fits, read_stands}
use Rattle.config_pages.specs.ConfigReply.{config_reply_layout, config_reply_values}
use Rattle.config_pages.proofs.ConfigReplyFields.{config_reply_values-injective}
use Rattle.config_pages.proofs.config_reply.decode_config_reply.Goals as goal

pub returns-clause-read : goal.returns-clause-read
returns-clause-read c =
    read_stands config_reply_layout c.layout.result c.args.bytes.now c.in_ok-values.values (config_reply_values c.from_values.result) c.layout.ensures c.in_ok-values.ensures.exact c.in_ok-values.ensures.fitting c.from_values.ensures

pub returns-clause-only : goal.returns-clause-only
returns-clause-only c =
    let stands = read_stands config_reply_layout c.layout.result c.args.bytes.now c.in_ok-values.values (config_reply_values c.from_values.result) c.layout.ensures c.in_ok-values.ensures.exact c.in_ok-values.ensures.fitting c.from_values.ensures in
    λ m other. ap Ok (config_reply_values-injective c.from_values.result m (Stands-same config_reply_layout (config_reply_values c.from_values.result) (config_reply_values m) c.args.bytes.now stands other))

pub returns-clause-fitting : goal.returns-clause-fitting
returns-clause-fitting c =
    read_fits config_reply_layout c.layout.result c.args.bytes.now c.in_ok-values.values (config_reply_values c.from_values.result) c.layout.ensures c.in_ok-values.ensures.exact c.in_ok-values.ensures.fitting c.from_values.ensures
