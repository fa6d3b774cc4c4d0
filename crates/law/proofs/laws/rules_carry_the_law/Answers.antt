use Rattle.law.proofs.Statements.{carried}
use Rattle.law.proofs.laws.rules_carry_the_law.Goals as goal

pub returns : goal.returns
returns c = λ s t p none_due. carried s t p none_due
