use Rattle.law_replays.proofs.OfCases.{replays_of_cases}
use Rattle.law_replays.proofs.laws.replays_are_of_cases.Goals as goal

pub returns : goal.returns
returns c = λ s lines i a. replays_of_cases s lines a
