-- The listing of a message: a line with its name and length, and a line for each row.
use Rattle.std.specs.Prelude.{ℕ, List, [], ◌∷◌, ◌++◌, ◌+◌, ◌%◌, ◌==◌, if◌then◌else◌, codes, decimal}
use Rattle.std.specs.List.{flat_map, zip}
use Rattle.byteorder.specs.Endian.{little_bytes}
use Rattle.hex.specs.Hex.{encode_lower}
use Rattle.mpi_layout.specs.Rows.{RowShape, Shape}
use Rattle.mpi_layout.specs.declared.fault.Fault.{Fault}
use Rattle.mpi_layout.specs.declared.fault.Fault.TheVariants.{Short, Field}
use Rattle.mpi_layout.specs.declared.row.Form.{Form}
use Rattle.mpi_layout.specs.declared.row.Form.TheVariants.{Number, Bytes}
use Rattle.mpt_text.specs.Words.{bytes_text, hex_number}

abbrev pub line_end : List ℕ
line_end = 10 ∷ []

-- a row's value: `0x` and two digits for each byte, the highest first, or the bytes text
abbrev pub value_text : Form → ℕ → ℕ → List ℕ
value_text Number width value = codes "0x" ++ hex_number width value
value_text Bytes width value = bytes_text (little_bytes width value)

-- a row of a part that starts at an offset: two digits of the row's offset, its name and its value
abbrev pub row_text : ℕ → RowShape → ℕ → List ℕ
row_text start row value = encode_lower ((start + row.at) % 256 ∷ []) ++ codes " " ++ row.name ++ codes " " ++ value_text row.form row.width value ++ line_end

-- the rows of a part that starts at an offset, a line for each
abbrev pub rows_text : ℕ → List RowShape → List ℕ → List ℕ
rows_text start rows values = flat_map (λ (p : RowShape × ℕ). row_text start p.0 p.1) (zip rows values)

-- a message's tail: two digits of its offset and the bytes text
abbrev pub tail_text : ℕ → List ℕ → List ℕ
tail_text at bytes = encode_lower (at ∷ []) ++ codes " Tail " ++ bytes_text bytes ++ line_end

-- the first line: the name and the length in bytes
abbrev pub heading_text : List ℕ → ℕ → List ℕ
heading_text name bytes = name ++ codes " " ++ decimal bytes ++ line_end

-- a message that is its layout's rows and no more
abbrev pub listing_text : List ℕ → Shape → List ℕ → List ℕ
listing_text name layout values = heading_text name layout.length ++ rows_text 0 layout.rows values

-- the line of bytes that are too few
abbrev pub short_text : ℕ → ℕ → List ℕ
short_text need have = codes "short need " ++ decimal need ++ codes " have " ++ decimal have ++ line_end

-- the name of the first row at an offset
abbrev pub name_at : List RowShape → ℕ → List ℕ
name_at [] at = []
name_at (row ∷ rows) at = if row.at == at then row.name else name_at rows at

-- the line of a row that breaks its rule
abbrev pub field_text : ℕ → List ℕ → List ℕ
field_text at name = codes "field " ++ encode_lower (at ∷ []) ++ codes " " ++ name ++ line_end

-- the line of a fault
abbrev pub fault_text : List RowShape → Fault → List ℕ
fault_text rows (Short need have) = short_text need have
fault_text rows (Field at) = field_text at (name_at rows at)
