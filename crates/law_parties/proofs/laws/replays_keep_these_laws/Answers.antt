use Rattle.law_parties.proofs.Kept.{replays_answered, replays_modes, replays_tell}
use Rattle.law_parties.proofs.laws.replays_keep_these_laws.Goals as goal

pub returns : goal.returns
returns c = record { once = replays_answered c.replays_are_of_cases.ensures; tells = replays_tell c.replays_are_of_cases.ensures; modes = replays_modes c.replays_are_of_cases.ensures }
