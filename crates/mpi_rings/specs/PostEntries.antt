-- How a reply post ring keeps its entries: a descriptor each, or all ones where one is unused.
use Rattle.std.specs.Prelude.{◌≡◌, ℕ, ◌+◌, ◌-◌, ◌%◌, ◌<◌, Bool, not, ◌==◌, List, ◌++◌, take, drop, length, replicate}
use Rattle.std.specs.List.{take_while}
use Rattle.mpi_names.specs.declared.memory.TheConstants.{POST_RING_ENTRIES}
use Rattle.mpi_names.specs.declared.descriptor.TheConstants.{UNUSED_ENTRY}

abbrev pub is_used : ℕ → Bool
is_used entry = not (entry == UNUSED_ENTRY)

-- the entries from an index on, once round the ring
abbrev pub from_index : ℕ → List ℕ → List ℕ
from_index index entries = drop index entries ++ take index entries

-- the descriptors that wait: from the host index on, up to the first unused entry
abbrev pub waiting_in : List ℕ → ℕ → List ℕ
waiting_in entries host_index = take_while is_used (from_index host_index entries)

-- the entries that don't wait are unused, and the post index follows those that wait
pub record IsInOrder (entries : List ℕ) (post_index host_index : ℕ) : Type 0 where
  pub size : length entries ≡ POST_RING_ENTRIES
  pub host : host_index < POST_RING_ENTRIES
  pub rest : from_index host_index entries ≡ waiting_in entries host_index ++ replicate (POST_RING_ENTRIES - length (waiting_in entries host_index)) UNUSED_ENTRY
  pub post : post_index ≡ (host_index + length (waiting_in entries host_index)) % POST_RING_ENTRIES
