-- How an exchange keeps a handshake: in one array, with its places counted in dwords or words.
use Rattle.std.specs.Prelude.{ℕ, ◌+◌, ◌*◌, ◌<◌, ◌≤◌, List, take, slice_range}
use Rattle.mpi_doorbell.specs.declared.exchange.Progress.{Progress}
use Rattle.mpi_doorbell.specs.declared.exchange.Progress.TheVariants as progress
use Rattle.mpi_doorbell.specs.Handshake.{Handshake, Idle, Collects, Asked, Replies}

abbrev pub handshake_of : Progress → List ℕ → Handshake
handshake_of progress.Idle bytes = Idle
handshake_of (progress.Collects got missing) bytes = Collects missing (take (4 * got) bytes)
handshake_of (progress.Asked dwords) bytes = Asked (take (4 * dwords) bytes)
handshake_of (progress.Replies word words) bytes = Replies (slice_range bytes (2 * word) (2 * words))

-- the places are within the array
abbrev pub IsSound : Progress → Type 0
IsSound progress.Idle = Unit {0}
IsSound (progress.Collects got missing) = (0 < missing) × (got + missing ≤ 32)
IsSound (progress.Asked dwords) = (0 < dwords) × (dwords ≤ 32)
IsSound (progress.Replies word words) = (word < words) × (words ≤ 64)
