-- Messages of a handshake as bytes.
use Rattle.std.specs.Prelude.{◌≡◌, ℕ, ◌-◌, ◌%◌, ◌≤◌, Bool, not, ◌==◌, List, ◌++◌, length, replicate, bit_and}

-- a message in an array of 128 bytes: zeros stand after it
abbrev pub padded : List ℕ → List ℕ
padded message = message ++ replicate (128 - length message) 0

-- some of these bits are set in the value
abbrev pub has : ℕ → ℕ → Bool
has value bits = not (bit_and value bits == 0)

-- a message that a handshake takes: 12 to 128 bytes, in whole dwords
pub record IsMessage (bytes : List ℕ) : Type 0 where
  pub least : 12 ≤ length bytes
  pub most : length bytes ≤ 128
  pub whole : length bytes % 4 ≡ 0

-- a reply that a handshake gives: 20 to 128 bytes, in whole dwords
pub record IsReply (bytes : List ℕ) : Type 0 where
  pub least : 20 ≤ length bytes
  pub most : length bytes ≤ 128
  pub whole : length bytes % 4 ≡ 0
