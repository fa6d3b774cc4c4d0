use Rattle.law_ends.proofs.HostResults.{results_law}
use Rattle.law_ends.proofs.laws.results_are_of_replies.Goals as goal

pub returns : goal.returns
returns c = results_law
