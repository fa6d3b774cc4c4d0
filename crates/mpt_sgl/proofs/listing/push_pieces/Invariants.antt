use Rattle.std.proofs.Common.{◌≡◌, ◌++◌, take}
use Rattle.std.specs.List.{flat_map}
use Rattle.mpt_sgl.specs.Listing.{piece_line}
use Rattle.mpt_sgl.proofs.listing.push_pieces.Given as goal

-- the text holds the lines of the pieces so far
abbrev pub invariant-loop-piece : goal.invariant-loop-piece
invariant-loop-piece l = l.text ≡ l.initial.text ++ flat_map piece_line (take l.piece-index l.pieces)
