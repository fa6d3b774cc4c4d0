use Rattle.std.proofs.Common.{refl}
use Rattle.mpt_replay.proofs.Lines.{head_line}
use Rattle.mpt_replay.proofs.carrying.carry_out_line.Goals as goal

pub returns-in-Queues : goal.returns-in-Queues
returns-in-Queues c = head_line c.args.system.now c.args.line.now c.requires (rw c.in-Queues.is refl)

pub returns-in-Disk : goal.returns-in-Disk
returns-in-Disk c = head_line c.args.system.now c.args.line.now c.requires (rw c.in-Disk.is refl)

pub returns-in-Expander : goal.returns-in-Expander
returns-in-Expander c = head_line c.args.system.now c.args.line.now c.requires (rw c.in-Expander.is refl)
