use Rattle.law_asked.proofs.Shown.{held_resets_are_kept}
use Rattle.law_asked.proofs.laws.held_resets_are_kept.Goals as goal

pub returns : goal.returns
returns c = held_resets_are_kept
