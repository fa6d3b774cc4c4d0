use Rattle.law_classes.proofs.Leasts.{leasts_agree}
use Rattle.law_classes.proofs.laws.leasts_agree.Goals as goal

pub returns : goal.returns
returns c = leasts_agree
