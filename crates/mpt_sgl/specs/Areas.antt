-- The elements of one area, as they are written.
use Rattle.std.specs.Prelude.{ℕ, ◌-◌, ◌==◌, Bool, if◌then◌else◌, List, [], ◌∷◌, ◌++◌, length, take, Option, Some, None}
use Rattle.mpt_sgl.specs.declared.element.Element.{Element}
use Rattle.mpt_sgl.specs.declared.list.Piece.{Piece}
use Rattle.mpt_sgl.specs.Elements.{chain_element, simple_element}

-- an element for each piece, the last of which has its own flags
abbrev pub simple_run : Bool → ℕ → List Piece → List Element
simple_run to_device last [] = []
simple_run to_device last (piece ∷ pieces) = simple_element to_device (if length pieces == 0 then last else 0x12) piece ∷ simple_run to_device last pieces

-- the elements of an area: all pieces, or those that there is room for and the chain element to the next frame
abbrev pub area_elements : Bool → ℕ → List Piece → Option ℕ → List Element
area_elements to_device room pieces None = simple_run to_device 0xd3 pieces
area_elements to_device room pieces (Some address) = simple_run to_device 0x92 (take room pieces) ++ chain_element (length pieces - room) address ∷ []
