use Rattle.std.proofs.Common.{◌∙◌, sym}
use Rattle.mpt_script.proofs.Room.{room_left}
use Rattle.mpt_script.proofs.declared.Declared.line.Goals as goal

pub returns-clause-room : goal.returns-clause-room
returns-clause-room c = rw c.line_of.ensures (room_left c.args.self.now c.args.statement c.is_too_many.ensures.limits (sym c.is_too_many.ensures.value ∙ c.if-is_too_many.false))
