use Rattle.std.proofs.Common.{◌≡◌, ◌*◌, ◌-◌, ◌++◌, IsTrue, drop, map}
use Rattle.mpt_sgl.specs.Elements.{elements_in}
use Rattle.mpt_sgl.specs.Segments.{piece_of, simples_fault}
use Rattle.std.specs.List.{list_all}
use Rattle.mpt_sgl.specs.Pieces.{is_piece}
use Rattle.mpt_sgl.proofs.area.read_simple.Given as goal

-- no fault so far; the pieces so far, and those that are left, are all
abbrev pub invariant-loop-place : goal.invariant-loop-place
invariant-loop-place l = record {
  faults : simples_fault l.segment 0 l.to_device l.last (elements_in l.count l.bytes) ≡ simples_fault l.segment l.place l.to_device l.last (elements_in (l.count - l.place) (drop (12 * l.place) l.bytes));
  told : l.pieces.items ++ map piece_of (elements_in (l.count - l.place) (drop (12 * l.place) l.bytes)) ≡ l.initial.pieces.items ++ map piece_of (elements_in l.count l.bytes);
  sound : IsTrue (list_all is_piece l.initial.pieces.items) → IsTrue (list_all is_piece l.pieces.items);
}
