-- What is wrong with one segment: the first area, or a frame.
use Rattle.std.specs.Prelude.{ℕ, suc, ◌+◌, ◌*◌, Bool, not, ◌==◌, if◌then◌else◌, List, [], ◌∷◌, length, map, drop, Option, Some, None, is_none}
use Rattle.std.specs.Option.{option_or}
use Rattle.mpt_sgl.specs.declared.element.Element.{Element}
use Rattle.mpt_sgl.specs.declared.element.Shape.{Shape}
use Rattle.mpt_sgl.specs.declared.fault.SglFault.{SglFault}
use Rattle.mpt_sgl.specs.declared.fault.SglFault.TheVariants as fault
use Rattle.mpt_sgl.specs.declared.list.Piece.{Piece}
use Rattle.mpt_sgl.specs.Elements.{chain_shape, element_at, elements_in, is_zero}

-- an element of a piece: its flags, and then its length
abbrev pub simple_fault : (segment element flags : ℕ) → Element → Option SglFault
simple_fault segment element flags e =
    if not (e.flags == flags) then Some (fault.Flags segment element)
    else if e.length == 0 then Some (fault.Length segment element)
    else None

-- the flags of an element before so many of the same segment's pieces: the last has its own
abbrev pub due_flags : Bool → (last behind : ℕ) → ℕ
due_flags to_device last behind = if to_device then (if behind == 0 then last else 0x12) + 4 else if behind == 0 then last else 0x12

-- the elements of pieces, from a place on
abbrev pub simples_fault : (segment element : ℕ) → Bool → (last : ℕ) → List Element → Option SglFault
simples_fault segment element to_device last [] = None
simples_fault segment element to_device last (e ∷ es) =
    option_or (simple_fault segment element (due_flags to_device last (length es)) e) (simples_fault segment (suc element) to_device last es)

-- a chain element: its flags, its length, and its address, where there is a next frame
abbrev pub chain_fault : (segment element : ℕ) → Element → Option ℕ → Option SglFault
chain_fault segment element e next =
    if not (e.flags == 0x32) then Some (fault.Flags segment element)
    else if is_none (chain_shape e.length) then Some (fault.Length segment element)
    else leads_to next where
      leads_to : Option ℕ → Option SglFault
      leads_to None = Some (fault.Missing segment)
      leads_to (Some address) = if e.address == address then None else Some (fault.Address segment element)

-- the bytes behind a segment's elements
abbrev pub unused_fault : ℕ → List ℕ → Option SglFault
unused_fault segment bytes = if is_zero bytes then None else Some (fault.Stray segment)

-- how many elements a segment of this shape has
abbrev pub element_count : Shape → ℕ
element_count shape = if shape.chained then shape.simple + 1 else shape.simple

-- a segment of this shape, with the next frame's address, if there is one: its elements in order, and then what is behind them
unfoldable pub segment_fault : ℕ → Shape → Bool → List ℕ → Option ℕ → Option SglFault
segment_fault segment shape to_device bytes next =
    option_or (simples_fault segment 0 to_device (if shape.chained then 0x92 else 0xd3) (elements_in shape.simple bytes))
    (
    if shape.chained then option_or (chain_fault segment shape.simple (element_at (drop (12 * shape.simple) bytes)) next) (unused_fault segment (drop (12 * shape.simple + 12) bytes))
    else unused_fault segment (drop (12 * shape.simple) bytes)
    )

-- the shape of the next segment, which the chain element tells
unfoldable pub next_shape : Shape → List ℕ → Option Shape
next_shape shape bytes = if shape.chained then chain_shape (element_at (drop (12 * shape.simple) bytes)).length else None

-- the piece of an element
abbrev pub piece_of : Element → Piece
piece_of e = record { address = e.address; len = e.length }

-- the pieces of a segment
abbrev pub segment_pieces : Shape → List ℕ → List Piece
segment_pieces shape bytes = map piece_of (elements_in shape.simple bytes)
