use Rattle.law_asked.proofs.Shown.{commands_are_read_as_written}
use Rattle.law_asked.proofs.laws.commands_are_read_as_written.Goals as goal

pub returns : goal.returns
returns c = commands_are_read_as_written
