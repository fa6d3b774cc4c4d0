use Rattle.law_messages.proofs.Shown.{commands_known}
use Rattle.law_messages.proofs.laws.open_commands_are_known.Goals as goal

pub returns : goal.returns
returns c = commands_known
