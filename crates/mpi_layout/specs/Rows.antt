-- Layouts as tables of rows: what their numbers are in bytes, and what they have to be.
use Rattle.std.specs.Prelude.{◌≡◌, ℕ, zero, suc, ◌+◌, ◌*◌, ◌%◌, ◌^◌, ◌≤◌, IsTrue, Bool, true, not, ◌&&◌, ◌==◌, nat_lt, nat_le, bit_and, if◌then◌else◌, List, [], ◌∷◌, length, take, map, slice_index, Option, Some, None}
use Rattle.std.specs.List.{find, list_all, list_any, zip}
use Rattle.std.specs.Option.{option_map}
use Rattle.mpi_layout.specs.declared.row.Row.{Row}
use Rattle.mpi_layout.specs.declared.row.Form.{Form}
use Rattle.mpi_layout.specs.declared.row.Form.TheVariants.{Number, Bytes}
use Rattle.mpi_layout.specs.declared.row.Rule.{Rule}
use Rattle.mpi_layout.specs.declared.row.Rule.TheVariants as rule
use Rattle.mpi_layout.specs.declared.fault.Fault.{Fault}
use Rattle.mpi_layout.specs.declared.fault.Fault.TheVariants.{Short, Field}

-- a row of a table: its name's ASCII codes, its offset and width in bytes, its rule, and how it is shown
pub record RowShape : Type 0 where
  pub name : List ℕ
  pub at : ℕ
  pub width : ℕ
  pub rule : Rule
  pub form : Form

-- a layout: its rows by rising offset, and its length in bytes
pub record Shape : Type 0 where
  pub rows : List RowShape
  pub length : ℕ

-- a row of the code as a row of a table
abbrev pub row_shape : Row → RowShape
row_shape row = record { name = row.name.now; at = row.at; width = row.width; rule = row.rule; form = row.form }

-- the rows of a table: shown as a number, or as bytes
abbrev pub number : ℕ → ℕ → List ℕ → Rule → RowShape
number at width name rule = record { name = name; at = at; width = width; rule = rule; form = Number }

abbrev pub bytes : ℕ → ℕ → List ℕ → Rule → RowShape
bytes at width name rule = record { name = name; at = at; width = width; rule = rule; form = Bytes }

-- the field of the bytes at an offset: the sum of bytes[at + i] * 256^i for i below the width
unfoldable pub field : List ℕ → ℕ → ℕ → ℕ
field bytes at zero = 0
field bytes at (suc i) = field bytes at i + slice_index bytes (at + i) * 256 ^ i

-- whether the rule allows the number
abbrev pub obeys : Rule → ℕ → Bool
obeys rule.Any value = true
obeys rule.Zero value = value == 0
obeys (rule.Is only) value = value == only
obeys (rule.OneOf values count) value = list_any (λ allowed. allowed == value) (take count values)
obeys (rule.Between least most) value = nat_le least value && nat_le value most
obeys (rule.Mask mask) value = bit_and value mask == value

-- the row's number in the bytes
abbrev pub number_in : List ℕ → RowShape → ℕ
number_in bytes row = field bytes row.at row.width

-- whether the row's number in the bytes breaks its rule
abbrev pub breaks : List ℕ → RowShape → Bool
breaks bytes row = not (obeys row.rule (number_in bytes row))

-- the rows rise from an offset up to an end, each from 1 to 8 bytes wide, with no gap and no overlap
abbrev pub tiles : ℕ → ℕ → List RowShape → Bool
tiles from end [] = from == end
tiles from end (row ∷ rows) = (row.at == from) && nat_le 1 row.width && nat_le row.width 8 && tiles (from + row.width) end rows

-- the rows cover each byte below the layout's length exactly once
abbrev pub IsTiled : Shape → Type 0
IsTiled layout = IsTrue (tiles 0 layout.length layout.rows)

-- the numbers of the rows in the bytes
abbrev pub fields : List RowShape → List ℕ → List ℕ
fields rows bytes = map (number_in bytes) rows

-- the first fault of the bytes: too few of them, or else the least offset whose rule fails
abbrev pub first_fault : Shape → List ℕ → Option Fault
first_fault layout bytes =
    if nat_lt (length bytes) layout.length then Some (Short layout.length (length bytes)) else option_map (λ row. Field row.at) (find (breaks bytes) layout.rows)

-- the number of a blank message in a row with the rule: 0, or the first that the rule names
abbrev pub blank_number : Rule → ℕ
blank_number (rule.Is only) = only
blank_number (rule.OneOf values count) = slice_index values 0
blank_number (rule.Between least most) = least
blank_number _ = 0

-- the numbers of a blank message
abbrev pub blank_values : Shape → List ℕ
blank_values layout = map (λ (row : RowShape). blank_number row.rule) layout.rows

-- whether a number fits its row's width and rule
abbrev pub value_fits : RowShape → ℕ → Bool
value_fits row value = nat_lt value (256 ^ row.width) && obeys row.rule value

-- whether each number fits its row
abbrev pub values_fit : List RowShape → List ℕ → Bool
values_fit rows values = list_all (λ (p : RowShape × ℕ). value_fits p.0 p.1) (zip rows values)

-- the bytes stand for these values: they are enough, and each row has its value as its field and obeys its rule
pub record Stands (layout : Shape) (values : List ℕ) (bytes : List ℕ) : Type 0 where
  pub enough : layout.length ≤ length bytes
  pub numbers : fields layout.rows bytes ≡ values
  pub obeyed : find (breaks bytes) layout.rows ≡ None

-- the number in the lowest bytes of a 64-bit number
abbrev pub low_bytes : ℕ → ℕ → ℕ
low_bytes width value = if nat_le 8 width then value else value % 256 ^ width

-- the values from a place on, each cut to its row's width
abbrev pub cut_from : List RowShape → List ℕ → ℕ → List ℕ
cut_from [] values i = []
cut_from (row ∷ rows) values i = low_bytes row.width (slice_index values i) ∷ cut_from rows values (suc i)
