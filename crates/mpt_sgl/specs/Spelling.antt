-- The bytes that spell a scatter list: one row of elements through the first area and all frames.
use Rattle.std.specs.Prelude.{◌≡◌, ℕ, suc, ◌%◌, IsTrue, Bool, ◌==◌, ◌&&◌, nat_lt, if◌then◌else◌, List, [], ◌∷◌, ◌++◌, length, map, drop, replicate, slice_index}
use Rattle.std.specs.List.{flat_map, list_all}
use Rattle.mpt_sgl.specs.declared.chained.ChainFrame.{ChainFrame}
use Rattle.mpt_sgl.specs.declared.chained.Chained.{Chained}
use Rattle.mpt_sgl.specs.declared.element.Element.{Element}
use Rattle.mpt_sgl.specs.declared.list.Piece.{Piece}
use Rattle.mpt_sgl.specs.declared.list.List.{List as ScatterList}
use Rattle.mpt_sgl.specs.Elements.{chain_element, elements_in, empty_element, is_zero, simple_element, unused_element}
use Rattle.mpt_sgl.specs.Pieces.{IsScatterList, frame_count}

-- a chain element follows the first piece, and then each ninth, where two or more pieces come behind it
abbrev pub is_chained : (number behind : ℕ) → Bool
is_chained number behind = (number % 9 == 0) && nat_lt 1 behind

-- the flags of a piece's element: d3 for the very last, 92 right before a chain element, and else 12
abbrev pub piece_flags : (number behind : ℕ) → ℕ
piece_flags number behind = if behind == 0 then 0xd3 else if is_chained number behind then 0x92 else 0x12

-- the row of elements from the piece of a number on: an element for each piece, and the chain elements, whose addresses are given in order
abbrev pub row_from : Bool → ℕ → List Piece → List ℕ → List Element
row_from to_device number [] chains = []
row_from to_device number (piece ∷ pieces) chains =
    simple_element to_device (piece_flags number (length pieces)) piece
    ∷ (if is_chained number (length pieces) then chain_element (length pieces) (slice_index chains 0) ∷ row_from to_device (suc number) pieces (drop 1 chains) else row_from to_device (suc number) pieces chains)

-- the whole row: that of all pieces, or the one element of the empty list
abbrev pub row_of : Bool → List Piece → List ℕ → List Element
row_of to_device [] chains = empty_element ∷ []
row_of to_device (piece ∷ pieces) chains = row_from to_device 0 (piece ∷ pieces) chains

-- the frames' addresses in order
abbrev pub addresses : List ChainFrame → List ℕ
addresses frames = map (λ (frame : ChainFrame). frame.address) frames

-- the elements that there is room for: two in the first area, and ten in each frame
abbrev pub elements : List ℕ → List ChainFrame → List Element
elements first frames = elements_in 2 first ++ flat_map (λ (frame : ChainFrame). elements_in 10 frame.bytes) frames

-- no byte behind the room for elements is other than zero
abbrev pub is_clear : List ℕ → List ChainFrame → Bool
is_clear first frames = is_zero (drop 24 first) && list_all (λ (frame : ChainFrame). is_zero (drop 120 frame.bytes)) frames

-- the bytes spell the list: the elements are the list's row, with the frames' addresses in its chain elements, and every other byte is zero
pub record Spells (list : ScatterList) (c : Chained) : Type 0 where
  pub sound : IsScatterList list.to_device list.pieces
  pub offset : c.offset ≡ (if nat_lt 2 (length list.pieces) then 0x1b else 0x00)
  pub frames : length c.frames ≡ frame_count (length list.pieces)
  pub row : (unused : ℕ) × (elements c.first c.frames ≡ row_of list.to_device list.pieces (addresses c.frames) ++ replicate unused unused_element)
  pub clear : IsTrue (is_clear c.first c.frames)

-- each of the numbers is a byte's
abbrev pub are_bytes : List ℕ → Bool
are_bytes bytes = list_all (λ byte. nat_lt byte 256) bytes

-- so many bytes
abbrev pub is_area : ℕ → List ℕ → Bool
is_area size bytes = (length bytes == size) && are_bytes bytes

-- each of the frames has 128 bytes
abbrev pub are_sized : List ChainFrame → Bool
are_sized frames = list_all (λ (frame : ChainFrame). is_area 128 frame.bytes) frames

-- the first area and the frames are of their sizes, as the code's arrays are
pub record IsSized (c : Chained) : Type 0 where
  pub first : IsTrue (is_area 32 c.first)
  pub frames : IsTrue (are_sized c.frames)
