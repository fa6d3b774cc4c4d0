use Rattle.law_ends.proofs.HostAnswers.{answered_law}
use Rattle.law_ends.proofs.laws.hosts_answer_once.Goals as goal

pub returns : goal.returns
returns c = answered_law
