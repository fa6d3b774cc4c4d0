-- Numbers and bytes as text.
use Rattle.std.specs.Prelude.{ℕ, Bool, nat_le, ◌==◌, ◌&&◌, if◌then◌else◌, List, [], ◌∷◌, ◌++◌, length, codes, decimal}
use Rattle.std.specs.List.{list_all}
use Rattle.byteorder.specs.Endian.{big_bytes}
use Rattle.hex.specs.Hex.{encode_lower}

-- a number of so many bytes in hexadecimal, two digits for each byte, the highest first
abbrev pub hex_number : ℕ → ℕ → List ℕ
hex_number width number = encode_lower (big_bytes width number)

-- the bytes are at least 16 and all equal to the first
abbrev pub is_run : ℕ → List ℕ → Bool
is_run first others = nat_le 15 (length others) && list_all (λ byte. byte == first) others

-- a run of equal bytes: their count, `*` and the byte
abbrev pub run_text : ℕ → ℕ → List ℕ
run_text count byte = decimal count ++ codes "*" ++ encode_lower (byte ∷ [])

-- no bytes are `-`, a run of equal ones is their count, `*` and the byte, others are two digits for each
abbrev pub bytes_text : List ℕ → List ℕ
bytes_text [] = codes "-"
bytes_text (first ∷ others) =
    if is_run first others then run_text (length (first ∷ others)) first
    else encode_lower (first ∷ others)
