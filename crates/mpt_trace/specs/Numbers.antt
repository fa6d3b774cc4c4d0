-- How numbers and bytes stand in a trace.
use Rattle.std.specs.Prelude.{ℕ, List, [], ◌∷◌, ◌++◌, codes, decimal}
use Rattle.byteorder.specs.Endian.{little_bytes}
use Rattle.hex.specs.Hex.{encode_lower}
use Rattle.mpt_text.specs.Words.{hex_number}

-- the end of a line
abbrev pub line_end : List ℕ
line_end = 10 ∷ []

-- a SAS address has 16 hexadecimal digits
abbrev pub address_text : ℕ → List ℕ
address_text address = hex_number 8 address

-- a handle has four
abbrev pub handle_text : ℕ → List ℕ
handle_text handle = hex_number 2 handle

-- a byte has two
abbrev pub byte_text : ℕ → List ℕ
byte_text byte = hex_number 1 byte

-- a descriptor is its 8 bytes in order
abbrev pub descriptor_text : ℕ → List ℕ
descriptor_text descriptor = encode_lower (little_bytes 8 descriptor)

-- an expander and its phy
abbrev pub place_text : ℕ → ℕ → List ℕ
place_text expander phy = decimal expander ++ codes " " ++ decimal phy
