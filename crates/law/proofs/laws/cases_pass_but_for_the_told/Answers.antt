use Rattle.law.proofs.CasePasses.{case_passes}
use Rattle.law.proofs.laws.cases_pass_but_for_the_told.Goals as goal

pub returns : goal.returns
returns c = case_passes
