use Rattle.law_standing.proofs.Shown.{messages_pass}
use Rattle.law_standing.proofs.laws.messages_pass.Goals as goal

pub returns : goal.returns
returns c = messages_pass
