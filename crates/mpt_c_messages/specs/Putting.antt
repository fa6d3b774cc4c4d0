-- Bytes for a buffer of C's.
use Rattle.std.specs.Prelude.{◌≡◌, ℕ, ◌<◌, ◌≤◌, ◌⊎◌, List, ◌++◌, length, drop}
use Rattle.mpt_c_messages.specs.declared.call_code.CallCode.{CallCode}
use Rattle.mpt_c_messages.specs.declared.call_code.CallCode.TheVariants as code

-- bytes at the front of a buffer
abbrev pub over : List ℕ → List ℕ → List ℕ
over bytes out = bytes ++ drop (length bytes) out

-- the bytes stand at the buffer's front with the call's own code, or they are longer than the buffer, which stays;
-- the length is theirs
abbrev pub IsPut : List ℕ → CallCode → List ℕ → List ℕ → ℕ → CallCode → Type 0
IsPut bytes own out out' long answer =
    (long ≡ length bytes)
    × (((length bytes ≤ length out) × (out' ≡ over bytes out) × (answer ≡ own))
    ⊎ ((length out < length bytes) × (out' ≡ out) × (answer ≡ code.ShortBuffer)))
