use Rattle.host_reading.proofs.Listed.{change_read}
use Rattle.host_reading.proofs.change.change_at.Goals as goal

pub returns : goal.returns
returns c = change_read c.args.frame.now c.args.place c.from.result c.u16_at.result c.from.ensures c.u16_at.ensures
