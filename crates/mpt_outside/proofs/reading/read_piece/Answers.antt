use Rattle.std.proofs.Common.{rules, []}
use Rattle.mpt_outside.proofs.CameLemmas.{came_kept}
use Rattle.mpt_outside.proofs.reading.read_piece.Goals as goal

pub returns-in_default-clause-stopped : goal.returns-in_default-clause-stopped
returns-in_default-clause-stopped g c = ([], came_kept _ _ _ _ c.in_default.ensures.bytes c.in_default.ensures.count, search rules)
