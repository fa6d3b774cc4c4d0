use Rattle.std.proofs.Common.{sym}
use Rattle.host_reading.proofs.Refused.{reply_stands}
use Rattle.host_reading.proofs.checks.read_message.Goals as goal

pub returns-in-Ok-clause-why : goal.returns-in-Ok-clause-why
returns-in-Ok-clause-why c = sym (reply_stands c.in-Ok.message c.args.bytes.now c.in-Ok.ensures.read.0 c.in-Ok.ensures.read.1)
