-- The host's reply post rings, and which marks of a reset were taken.
use Rattle.std.specs.Prelude.{◌≡◌, ℕ, ◌≤◌, Bool, List, [], length}
use Rattle.std.specs.List.{All}
use Rattle.mpi_rings.specs.PostRing.{PostState}

-- by reply queue the host index of its ring, and whether its mark was taken
pub record Rings : Type 0 where
  pub indices : List ℕ
  pub marks : List Bool

-- the host index of a ring
abbrev pub index_of : PostState → ℕ
index_of ring = ring.host_index

-- nothing waits in a ring
abbrev pub IsRead : PostState → Type 0
IsRead ring = ring.waiting ≡ []

-- there are from 1 to 8 rings, in none of which something waits, and as many marks
pub record IsRings (rings : List PostState) (marks : List Bool) : Type 0 where
  pub one : 1 ≤ length rings
  pub most : length rings ≤ 8
  pub as_many : length marks ≡ length rings
  pub are_read : All IsRead rings
