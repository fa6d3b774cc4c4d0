-- The bytes of a scatter list as an input has them: the request's ChainOffset, the first area's 32 bytes, and the frames, each with 8 bytes of address and 128 of its own.
use Rattle.std.specs.Prelude.{ℕ, zero, suc, ◌+◌, ◌-◌, ◌*◌, ◌/◌, nat_lt, if◌then◌else◌, List, [], ◌∷◌, length, take, drop, slice_index, Option, Some}
use Rattle.std.specs.Option.{option_map}
use Rattle.byteorder.specs.Endian.{little_number}
use Rattle.mpt_messages.specs.Listing.{short_text}
use Rattle.mpt_sgl.specs.declared.chained.ChainFrame.{ChainFrame}
use Rattle.mpt_sgl.specs.declared.chained.Chained.{Chained}
use Rattle.mpt_sgl.specs.Faults.{first_fault}
use Rattle.mpt_sgl.specs.Listing.{fault_line}

-- how many frames begin in so many bytes
abbrev pub frames_begun : ℕ → ℕ
frames_begun size = (size - 33 + 135) / 136

-- the bytes up to the end of the first area and of each frame that begins
abbrev pub whole_size : ℕ → ℕ
whole_size size = 33 + 136 * frames_begun size

-- the frame at the front of the bytes
abbrev pub frame_at : List ℕ → ChainFrame
frame_at bytes = record { address = little_number 8 bytes; bytes = take 128 (drop 8 bytes) }

-- so many frames from the front of the bytes on
abbrev pub frames_in : ℕ → List ℕ → List ChainFrame
frames_in zero bytes = []
frames_in (suc count) bytes = frame_at bytes ∷ frames_in count (drop 136 bytes)

-- what the bytes have
abbrev pub chained_in : List ℕ → Chained
chained_in bytes = record { offset = slice_index bytes 0; first = take 32 (drop 1 bytes); frames = frames_in (frames_begun (length bytes)) (drop 33 bytes) }

-- the line of the bytes' refusal: they end in the first area or in a frame, or they have a fault
abbrev pub scatter_refusal : List ℕ → Option (List ℕ)
scatter_refusal bytes =
    if nat_lt (length bytes) (whole_size (length bytes)) then Some (short_text (whole_size (length bytes)) (length bytes))
    else option_map fault_line (first_fault (chained_in bytes))
