-- A reply post ring: the descriptors that wait to be read, and where the host reads.
use Rattle.std.specs.Prelude.{ℕ, ◌+◌, ◌%◌, List, [], ◌∷◌, ◌++◌, drop}
use Rattle.mpi_names.specs.declared.memory.TheConstants.{POST_RING_ENTRIES}

-- the descriptors posted and not yet read, the oldest first, and the host index, from 0 to 351. They
-- stand in the entries from the host index on, modulo 352, and all other entries are unused
pub record PostState : Type 0 where
  pub waiting : List ℕ
  pub host_index : ℕ

-- no entry is used, and the host reads the first
abbrev pub all_unused : PostState
all_unused = record { waiting = []; host_index = 0 }

-- one more descriptor waits
abbrev pub with_posted : PostState → ℕ → PostState
with_posted ring d = record { waiting = ring.waiting ++ d ∷ []; host_index = ring.host_index }

-- the oldest is read and its entry unused again, so that the host index moves on by one, modulo 352
abbrev pub with_first_read : PostState → PostState
with_first_read ring = record { waiting = drop 1 ring.waiting; host_index = (ring.host_index + 1) % POST_RING_ENTRIES }
