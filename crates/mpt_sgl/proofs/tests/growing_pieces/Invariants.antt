use Rattle.std.proofs.Common.{◌≡◌, IsTrue, length}
use Rattle.std.specs.List.{list_all}
use Rattle.mpt_sgl.specs.Pieces.{is_piece}
use Rattle.mpt_sgl.proofs.tests.growing_pieces.Given as goal

abbrev pub invariant-loop-i : goal.invariant-loop-i
invariant-loop-i l = IsTrue (list_all is_piece l.pieces.items) × (length l.pieces.items ≡ l.i)
