-- The listing of a scatter list, and the line of each fault.
use Rattle.std.specs.Prelude.{ℕ, Bool, true, false, List, [], ◌∷◌, ◌++◌, length, codes, decimal}
use Rattle.std.specs.List.{flat_map}
use Rattle.mpt_text.specs.Words.{hex_number}
use Rattle.mpt_sgl.specs.declared.fault.SglFault.{SglFault}
use Rattle.mpt_sgl.specs.declared.fault.SglFault.TheVariants as fault
use Rattle.mpt_sgl.specs.declared.list.Piece.{Piece}
use Rattle.mpt_sgl.specs.declared.list.List.{List as ScatterList}

abbrev pub line_end : List ℕ
line_end = 10 ∷ []

-- `out` where the data go to the device, and else `in`
abbrev pub direction_word : Bool → List ℕ
direction_word true = codes "out"
direction_word false = codes "in"

-- the first line: how many pieces there are, and the direction
abbrev pub list_heading : ScatterList → List ℕ
list_heading list = codes "sgl " ++ decimal (length list.pieces) ++ codes " " ++ direction_word list.to_device ++ line_end

-- a piece: its address in 16 hexadecimal digits, and its length in decimal
abbrev pub piece_line : Piece → List ℕ
piece_line piece = hex_number 8 piece.address ++ codes " " ++ decimal piece.len ++ line_end

-- the listing: the first line, and a line for each piece
abbrev pub list_listing : ScatterList → List ℕ
list_listing list = list_heading list ++ flat_map piece_line list.pieces

-- the line of a fault of an element: its segment's number, and its own
abbrev pub element_fault_line : List ℕ → ℕ → ℕ → List ℕ
element_fault_line word segment element = codes "sgl " ++ word ++ codes " " ++ decimal segment ++ codes " " ++ decimal element ++ line_end

-- the line of a fault of a segment
abbrev pub segment_fault_line : List ℕ → ℕ → List ℕ
segment_fault_line word segment = codes "sgl " ++ word ++ codes " " ++ decimal segment ++ line_end

-- the line of a fault; want of memory says nothing of the bytes, and has none
abbrev pub fault_line : SglFault → List ℕ
fault_line fault.OutOfMemory = []
fault_line (fault.Offset offset) = codes "sgl offset" ++ line_end
fault_line (fault.Flags segment element) = element_fault_line (codes "flags") segment element
fault_line (fault.Length segment element) = element_fault_line (codes "length") segment element
fault_line (fault.Address segment element) = element_fault_line (codes "address") segment element
fault_line (fault.Missing segment) = segment_fault_line (codes "missing") segment
fault_line (fault.Stray segment) = segment_fault_line (codes "stray") segment
fault_line (fault.Extra kept given) = codes "sgl extra" ++ line_end
fault_line fault.Many = codes "sgl many" ++ line_end
