-- How the host's side is kept: two arrays, with their places counted in dwords and words.
use Rattle.std.specs.Prelude.{ℕ, ◌≤◌, List, slice_index}

-- the places are within the arrays, and MsgLength was looked at as it came
pub record IsSound (dwords sent words : ℕ) (reply : List ℕ) : Type 0 where
  pub message_fits : dwords ≤ 32
  pub sent_fits : sent ≤ dwords
  pub reply_fits : words ≤ 64
  pub msg_length : 2 ≤ words → slice_index reply 2 ≤ 32
