use Rattle.law_registers.proofs.ValuesRead.{replays_values}
use Rattle.law_registers.proofs.laws.replays_read_registers.Goals as goal

pub returns : goal.returns
returns c = replays_values c.replays_are_of_cases.ensures
