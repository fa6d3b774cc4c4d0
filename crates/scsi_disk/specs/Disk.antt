-- A disk is its SAS address and its bytes, in blocks of 512.
use Rattle.std.specs.Prelude.{◌≡◌, ℕ, ◌+◌, ◌*◌, ◌/◌, ◌≤◌, Bool, nat_le, List, length, ◌++◌, take, drop}
use Rattle.scsi_disk.specs.declared.operation.Transfer.{Transfer}

pub record Disk : Type 0 where
  pub address : ℕ
  pub bytes : List ℕ

-- how many blocks these bytes are
abbrev pub block_count : List ℕ → ℕ
block_count bytes = length bytes / 512

-- the bytes are from 1 to 1,024 whole blocks
pub record IsWholeDisk (bytes : List ℕ) : Type 0 where
  pub whole : length bytes ≡ 512 * block_count bytes
  pub some_block : 1 ≤ block_count bytes
  pub at_most : block_count bytes ≤ 1024

-- the transfer ends within the disk
abbrev pub is_in_range : List ℕ → Transfer → Bool
is_in_range bytes transfer = nat_le (transfer.address + transfer.blocks) (block_count bytes)

-- these many bytes from a block on
abbrev pub bytes_from : ℕ → ℕ → List ℕ → List ℕ
bytes_from block count bytes = take count (drop (512 * block) bytes)

-- one block
abbrev pub block_at : ℕ → List ℕ → List ℕ
block_at block bytes = bytes_from block 512 bytes

-- the bytes with other data from a block on
abbrev pub with_data : ℕ → List ℕ → List ℕ → List ℕ
with_data block payload bytes = take (512 * block) bytes ++ payload ++ drop (512 * block + length payload) bytes
