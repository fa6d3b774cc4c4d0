use Rattle.law_counts.proofs.Shown.{answers_at_first}
use Rattle.law_counts.proofs.laws.fabric_answers_at_first.Goals as goal

pub returns : goal.returns
returns c = answers_at_first
