use Rattle.mpt_lines.proofs.Splits.{empty_left}
use Rattle.mpt_lines.proofs.pieces.Pieces.is_empty.Goals as goal

pub returns : goal.returns
returns c = empty_left _ _ _ _ c.self.view_is c.is_none.ensures
