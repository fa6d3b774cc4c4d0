-- The words of a line that name a value, and the ranges of numbers. Each reading of a word gives its
-- value, or the cause why the line is refused.
use Rattle.std.specs.Prelude.{ℕ, ◌+◌, ◌-◌, ◌*◌, ◌^◌, ◌/◌, ◌%◌, ◌==◌, ◌&&◌, ◌||◌, not, min, nat_le, Bool, if◌then◌else◌, List, length, fold, Option, Result, Ok, Err, slice_index}
use Rattle.std.specs.Result.{result_ok}
use Rattle.std.specs.Int.{from_be_bytes, w64}
use Rattle.std.specs.List.{list_all}
use Rattle.hex.specs.declared.error.FromHexError.{FromHexError}
use Rattle.hex.specs.Hex.{decode_sized, is_hex_digit}
use Rattle.mpt_lines.specs.declared.fault.Cause.{Cause}
use Rattle.mpt_lines.specs.declared.fault.Cause.TheVariants.{Form, Range}

-- what is said of a value, if there is one; else the cause why there is none
infixl 10 ◌>>=◌
abbrev pub ◌>>=◌ : {A B : Type 0} → Result A Cause → (A → Result B Cause) → Result B Cause
Ok value >>= next = next value
Err cause >>= next = Err cause

-- `0` to `9`
abbrev pub is_decimal_digit : ℕ → Bool
is_decimal_digit digit = nat_le 48 digit && nat_le digit 57

-- decimal digits, of which the first is 0 only where it is the only one
abbrev pub is_numeral : List ℕ → Bool
is_numeral word = nat_le 1 (length word) && list_all is_decimal_digit word && ((length word == 1) || not (slice_index word 0 == 48))

-- the number that decimal digits name
abbrev pub decimal_value : List ℕ → ℕ
decimal_value word = fold (λ value digit. value * 10 + (digit - 48)) 0 word

-- Every range of a number ends below this.
abbrev pub too_great : ℕ
too_great = 2 ^ 64

-- The number that a word names, of any size: those of 2^64 and above are outside every range, and
-- count as one.
abbrev pub number : List ℕ → Result ℕ Cause
number word = if is_numeral word then Ok (min (decimal_value word) too_great) else Err Form

-- a number, if it is in its range
abbrev pub within : ℕ → ℕ → ℕ → Result ℕ Cause
within low high value = if nat_le low value && nat_le value high then Ok value else Err Range

-- the number below 2^64 that a word names
abbrev pub word_number : List ℕ → Option ℕ
word_number word = result_ok (number word >>= within 0 (2 ^ 64 - 1))

-- the bytes that hexadecimal digits name, or the form's fault
abbrev pub formed : Result (List ℕ) FromHexError → Result (List ℕ) Cause
formed (Ok bytes) = Ok bytes
formed (Err fault) = Err Form

-- so many bytes, two hexadecimal digits for each and in either case
abbrev pub digits : ℕ → List ℕ → Result (List ℕ) Cause
digits count word = formed (decode_sized word count)

-- an address: 16 digits
abbrev pub address : List ℕ → Result ℕ Cause
address word = digits 8 word >>= (λ bytes. Ok (from_be_bytes w64 bytes))

-- a byte: two digits
abbrev pub byte : List ℕ → Result ℕ Cause
byte word = digits 1 word >>= (λ bytes. Ok (slice_index bytes 0))

-- one byte or more, two hexadecimal digits for each and in either case
abbrev pub is_bytes : List ℕ → Bool
is_bytes word = nat_le 1 (length word) && (length word % 2 == 0) && list_all is_hex_digit word

-- whether a word has the form of bytes
abbrev pub checked_bytes : List ℕ → Result Unit Cause
checked_bytes word = if is_bytes word then Ok tt else Err Form

-- the bytes of a command descriptor block, of which there are at most 32
abbrev pub cdb : List ℕ → Result (List ℕ) Cause
cdb word = if nat_le (length word / 2) 32 then digits (length word / 2) word else Err Range
