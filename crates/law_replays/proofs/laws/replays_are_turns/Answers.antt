use Rattle.law_replays.proofs.Turns.{replays_turned}
use Rattle.law_replays.proofs.laws.replays_are_turns.Goals as goal

pub returns : goal.returns
returns c = replays_turned
