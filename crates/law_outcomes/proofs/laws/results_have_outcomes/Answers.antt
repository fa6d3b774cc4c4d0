use Rattle.law_outcomes.proofs.Fields.{result_fits}
use Rattle.law_outcomes.proofs.laws.results_have_outcomes.Goals as goal

pub returns : goal.returns
returns c = λ w h x f plain more runs n d r e g l. result_fits w h f plain more runs x n d r e g l
