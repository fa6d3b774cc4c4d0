use Rattle.std.proofs.Common.{◌∙◌, sym, ◌+◌}
use Rattle.mpt_lines.proofs.Splits.{pieces_at, pieces_without, left_of, to_the_end}
use Rattle.mpt_lines.proofs.pieces.Pieces.take.Goals as goal

pub returns-in-Some : goal.returns-in-Some
returns-in-Some c =
    let whole = left_of _ _ _ _ c.self.view_is c.in_ok-rest.was in
    rw (to_the_end (c.in-Some.at + 1) c.in_ok-rest.rest.now) (whole ∙ pieces_at _ _ _ (sym c.place_of.ensures.at ∙ c.in-Some.is))

pub returns-in-None : goal.returns-in-None
returns-in-None c =
    let whole = left_of _ _ _ _ c.self.view_is c.in_ok-rest.was in
    whole ∙ pieces_without _ _ (sym c.place_of.ensures.at ∙ c.in-None.is)
