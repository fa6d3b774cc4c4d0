use Rattle.law_replays.proofs.Limits.{keeps_limits}
use Rattle.law_replays.proofs.laws.schedules_keep_limits.Goals as goal

pub returns : goal.returns
returns c = λ lines allowed. keeps_limits lines allowed
