-- Elements, by the numbers in their 12 bytes.
use Rattle.std.specs.Prelude.{ℕ, zero, suc, ◌+◌, ◌*◌, ◌/◌, ◌%◌, Bool, true, false, not, ◌==◌, nat_lt, bit_and, if◌then◌else◌, codes, List, [], ◌∷◌, drop, Option, Some, None}
use Rattle.std.specs.List.{list_all}
use Rattle.mpi_layout.specs.Rows.{Shape as Layout, field, number}
use Rattle.mpi_layout.specs.declared.row.Rule.TheVariants.{Any}
use Rattle.mpt_sgl.specs.declared.element.Element.{Element}
use Rattle.mpt_sgl.specs.declared.element.Shape.{Shape}
use Rattle.mpt_sgl.specs.declared.list.Piece.{Piece}

-- mpi2.h, MPI2_SGE_SIMPLE64 and MPI2_SGE_CHAIN64; of the latter the length has two bytes, and the third is NextChainOffset
unfoldable pub element_layout : Layout
element_layout = record {
  length = 12;
  rows = number 0x00 3 (codes "Length") Any ∷ number 0x03 1 (codes "Flags") Any ∷ number 0x04 8 (codes "Address") Any ∷ [];
}

-- the element at the front of the bytes
abbrev pub element_at : List ℕ → Element
element_at bytes = record { length = field bytes 0 3; flags = field bytes 3 1; address = field bytes 4 8 }

-- so many elements from the front of the bytes on
unfoldable pub elements_in : ℕ → List ℕ → List Element
elements_in zero bytes = []
elements_in (suc count) bytes = element_at bytes ∷ elements_in count (drop 12 bytes)

-- the bytes are zero
abbrev pub is_zero : List ℕ → Bool
is_zero bytes = list_all (λ byte. byte == 0) bytes

-- the element of 12 bytes that are zero
abbrev pub unused_element : Element
unused_element = record { length = 0; flags = 0; address = 0 }

-- the one element of the empty list
abbrev pub empty_element : Element
empty_element = record { length = 0; flags = 0xd3; address = 0xffff_ffff_ffff_ffff }

-- the element of a piece: 04 is added to its flags where the list is to the device
abbrev pub simple_element : Bool → ℕ → Piece → Element
simple_element to_device flags piece = record { length = piece.len; flags = if to_device then flags + 4 else flags; address = piece.address }

-- the length of a chain element to a frame from which on so many pieces are left: 12 for each element of the frame, of which there are up to ten, and where more than ten pieces are left the frame has a chain element, and NextChainOffset is 1b
abbrev pub chain_length : ℕ → ℕ
chain_length left = if nat_lt 10 left then 0x1b_0000 + 120 else 12 * left

-- the chain element to the frame at this address
abbrev pub chain_element : ℕ → ℕ → Element
chain_element left address = record { length = chain_length left; flags = 0x32; address = address }

-- the direction that the flags tell
abbrev pub is_to_device : ℕ → Bool
is_to_device flags = not (bit_and flags 4 == 0)

-- what the frame has that a chain element of this length leads to: nine pieces and a chain element, or two to ten pieces
abbrev pub chain_shape : ℕ → Option Shape
chain_shape length =
    if length == 0x1b_0000 + 120 then Some (record { simple = 9; chained = true })
    else if nat_lt length 24 then None
    else if nat_lt 120 length then None
    else if length % 12 == 0 then Some (record { simple = length / 12; chained = false })
    else None
