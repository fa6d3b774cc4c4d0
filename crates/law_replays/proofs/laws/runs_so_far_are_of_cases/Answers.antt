use Rattle.law_replays.proofs.OfCases.{runs_so_far_of_cases}
use Rattle.law_replays.proofs.laws.runs_so_far_are_of_cases.Goals as goal

pub returns : goal.returns
returns c = λ s lines drains done i a. runs_so_far_of_cases s lines drains done a
