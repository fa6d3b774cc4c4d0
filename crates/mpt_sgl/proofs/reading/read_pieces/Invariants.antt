use Rattle.std.proofs.Common.{◌≡◌, ◌≤◌, ◌*◌, ◌++◌, IsTrue, drop, length}
use Rattle.std.specs.List.{list_all}
use Rattle.mpt_sgl.specs.Faults.{chain_faults, chain_pieces}
use Rattle.mpt_sgl.specs.Pieces.{is_piece}
use Rattle.mpt_sgl.specs.Segments.{element_count}
use Rattle.mpt_sgl.proofs.reading.read_pieces.Given as goal

-- no fault so far; the pieces so far, and those from this segment on, are all
abbrev pub invariant-loop-frame : goal.invariant-loop-frame
invariant-loop-frame l = record {
  faults : chain_faults 0 l.fn.shape l.to_device l.first l.frames ≡ chain_faults l.segment l.current l.to_device l.bytes (drop l.frame-index l.frames);
  told : chain_pieces l.fn.shape l.first l.frames ≡ l.pieces.items ++ chain_pieces l.current l.bytes (drop l.frame-index l.frames);
  sound : IsTrue (list_all is_piece l.pieces.items);
  room : 12 * element_count l.current ≤ length l.bytes;
  counted : l.segment ≡ l.frame-index;
}
