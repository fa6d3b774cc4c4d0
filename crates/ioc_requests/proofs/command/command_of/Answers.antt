use Rattle.std.proofs.Common.{arith}
use Rattle.ioc_requests.proofs.Named.{cdb_short}
use Rattle.ioc_requests.proofs.Transfers.{command_is}
use Rattle.ioc_requests.proofs.command.command_of.Goals as goal

pub cdb_of-requires : goal.cdb_of-requires
cdb_of-requires c = let short = cdb_short c.args.io.now c.args.post.frame c.requires in omega (arith, short)

pub returns : goal.returns
returns c = command_is c.args.io.now c.args.post.frame c.args.post.payload c.cdb_of.result c.requires (rw c.from.ensures at c.cdb_of.ensures)
