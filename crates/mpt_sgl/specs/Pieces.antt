-- Scatter lists as the host thinks of them.
use Rattle.std.specs.Prelude.{◌≡◌, ℕ, ◌+◌, ◌-◌, ◌/◌, ◌≤◌, IsTrue, Bool, false, ◌&&◌, nat_lt, nat_le, if◌then◌else◌, List, [], length}
use Rattle.std.specs.List.{list_all}
use Rattle.mpt_sgl.specs.declared.list.Piece.{Piece}

-- a piece's length is one that an element can have, and not 0
abbrev pub is_piece : Piece → Bool
is_piece piece = nat_le 1 piece.len && nat_le piece.len 0xff_ffff

-- the pieces and the direction are a scatter list's: up to 256 pieces, and with none it isn't to the device
pub record IsScatterList (to_device : Bool) (pieces : List Piece) : Type 0 where
  pub few : length pieces ≤ 256
  pub sound : IsTrue (list_all is_piece pieces)
  pub direction : pieces ≡ [] → to_device ≡ false

-- how many chain frames so many pieces need: none for two, one for up to eleven, and one more for each further nine
abbrev pub frame_count : ℕ → ℕ
frame_count pieces = if nat_lt pieces 3 then 0 else (pieces - 3) / 9 + 1
