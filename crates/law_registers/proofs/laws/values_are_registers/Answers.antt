use Rattle.law_registers.proofs.ValuesRead.{values_law}
use Rattle.law_registers.proofs.laws.values_are_registers.Goals as goal

pub returns : goal.returns
returns c = values_law
