-- The areas of a list, one after the other.
use Rattle.std.specs.Prelude.{◌≡◌, ℕ, ◌+◌, ◌-◌, ◌*◌, ◌≤◌, Bool, true, List, [], ◌∷◌, length, drop, Some, None}
use Rattle.mpt_sgl.specs.declared.chained.ChainFrame.{ChainFrame}
use Rattle.mpt_sgl.specs.declared.element.Element.{Element}
use Rattle.mpt_sgl.specs.declared.list.Piece.{Piece}
use Rattle.mpt_sgl.specs.Areas.{area_elements}
use Rattle.mpt_sgl.specs.Elements.{elements_in, is_zero}

-- the bytes begin with these elements, and are zero behind them
pub record Begins (elements : List Element) (bytes : List ℕ) : Type 0 where
  pub first : elements_in (length elements) bytes ≡ elements
  pub zero : is_zero (drop (12 * length elements) bytes) ≡ true

-- the pieces that are left stand in this area, with this much room before a chain element, and in the frames behind it
abbrev pub Held : Bool → ℕ → List Piece → List ℕ → List ChainFrame → Type 0
Held to_device room pieces bytes [] = (1 ≤ length pieces) × (length pieces ≤ room + 1) × Begins (area_elements to_device room pieces None) bytes
Held to_device room pieces bytes (frame ∷ frames) =
    (room + 2 ≤ length pieces) × Begins (area_elements to_device room pieces (Some frame.address)) bytes × Held to_device 9 (drop room pieces) frame.bytes frames

-- the pieces that are left stand in these frames, if there are any
abbrev pub FramesHold : Bool → List Piece → List ChainFrame → Type 0
FramesHold to_device pieces [] = Unit {0}
FramesHold to_device pieces (frame ∷ frames) = Held to_device 9 pieces frame.bytes frames

-- so many frames hold what doesn't find room
abbrev pub FramesFit : ℕ → ℕ → List ChainFrame → Type 0
FramesFit room left [] = (1 ≤ left) × (left ≤ room + 1)
FramesFit room left (frame ∷ frames) = (room + 2 ≤ left) × FramesFit 9 (left - room) frames
