use Rattle.law_requests.proofs.Shown.{requests_are_kept}
use Rattle.law_requests.proofs.laws.requests_are_kept.Goals as goal

pub returns : goal.returns
returns c = requests_are_kept
