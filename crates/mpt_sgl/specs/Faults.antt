-- The first fault of the bytes of a scatter list, in the order in which they are looked at.
use Rattle.std.specs.Prelude.{◌≡◌, ℕ, suc, ◌+◌, Bool, true, false, not, ◌==◌, ◌&&◌, ◌||◌, nat_lt, if◌then◌else◌, List, [], ◌∷◌, ◌++◌, length, drop, Option, Some, None, ◌⊎◌}
use Rattle.std.specs.Option.{option_map_or, option_or}
use Rattle.mpt_sgl.specs.declared.chained.ChainFrame.{ChainFrame}
use Rattle.mpt_sgl.specs.declared.chained.Chained.{Chained}
use Rattle.mpt_sgl.specs.declared.element.Element.{Element}
use Rattle.mpt_sgl.specs.declared.element.Shape.{Shape}
use Rattle.mpt_sgl.specs.declared.fault.SglFault.{SglFault}
use Rattle.mpt_sgl.specs.declared.fault.SglFault.TheVariants as fault
use Rattle.mpt_sgl.specs.declared.list.Piece.{Piece}
use Rattle.mpt_sgl.specs.Elements.{element_at, is_to_device}
use Rattle.mpt_sgl.specs.Segments.{next_shape, segment_fault, segment_pieces, unused_fault}

-- the faults from a segment on, with the frames behind it
unfoldable pub chain_faults : ℕ → Shape → Bool → List ℕ → List ChainFrame → Option SglFault
chain_faults segment shape to_device bytes [] = segment_fault segment shape to_device bytes None
chain_faults segment shape to_device bytes (frame ∷ frames) =
    option_or (segment_fault segment shape to_device bytes (Some frame.address))
    (option_map_or (λ (next : Shape). chain_faults (suc segment) next to_device frame.bytes frames) (next_shape shape bytes) (Some (fault.Extra segment (segment + suc (length frames)))))

-- the pieces from a segment on
unfoldable pub chain_pieces : Shape → List ℕ → List ChainFrame → List Piece
chain_pieces shape bytes [] = segment_pieces shape bytes
chain_pieces shape bytes (frame ∷ frames) =
    segment_pieces shape bytes ++ option_map_or (λ (next : Shape). chain_pieces next frame.bytes frames) (next_shape shape bytes) []

-- what the first area has: a piece and a chain element, or one piece, or two
abbrev pub first_shape : ℕ → Element → Shape
first_shape offset lead =
    if offset == 0x1b then record { simple = 1; chained = true }
    else if (lead.flags == 0xd3) || (lead.flags == 0xd7) then record { simple = 1; chained = false }
    else record { simple = 2; chained = false }

-- the first element is the empty list's but for its address
abbrev pub is_empty_lead : ℕ → Element → Bool
is_empty_lead offset lead = (offset == 0) && (lead.flags == 0xd3) && (lead.length == 0)

-- the faults of the empty list
abbrev pub empty_fault : Element → List ℕ → List ChainFrame → Option SglFault
empty_fault lead first frames =
    if not (lead.address == 0xffff_ffff_ffff_ffff) then Some (fault.Address 0 0)
    else option_or (unused_fault 0 (drop 12 first)) (if length frames == 0 then None else Some (fault.Extra 0 (length frames)))

-- the pieces that the bytes tell
abbrev pub pieces_told : Chained → List Piece
pieces_told c = if is_empty_lead c.offset (element_at c.first) then [] else chain_pieces (first_shape c.offset (element_at c.first)) c.first c.frames

-- the first fault of the bytes
abbrev pub first_fault : Chained → Option SglFault
first_fault c =
    if not ((c.offset == 0) || (c.offset == 0x1b)) then Some (fault.Offset c.offset)
    else if is_empty_lead c.offset (element_at c.first) then empty_fault (element_at c.first) c.first c.frames
    else option_or (chain_faults 0 (first_shape c.offset (element_at c.first)) (is_to_device (element_at c.first).flags) c.first c.frames) (if nat_lt 256 (length (pieces_told c)) then Some fault.Many else None)

-- memory was wanting, or this is the first fault
abbrev pub IsFault : Option SglFault → SglFault → Type 0
IsFault first cause = (cause ≡ fault.OutOfMemory) ⊎ (first ≡ Some cause)
