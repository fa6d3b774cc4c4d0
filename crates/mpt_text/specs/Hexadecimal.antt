-- Bytes written as hexadecimal digits.
use Rattle.std.specs.Prelude.{ℕ, Bool, not, ◌==◌, ◌||◌, List, filter, Option}
use Rattle.std.specs.Result.{result_ok}
use Rattle.hex.specs.Hex.{decode_of}

-- a space, a tab, CR or LF
abbrev pub is_white : ℕ → Bool
is_white byte = (byte == 32) || (byte == 9) || (byte == 13) || (byte == 10)

-- the bytes that an even number of hexadecimal digits name, in either case
abbrev pub bytes_of_digits : List ℕ → Option (List ℕ)
bytes_of_digits digits = result_ok (decode_of digits)

-- the bytes that a text names, once white space is taken out
abbrev pub hexadecimal : List ℕ → Option (List ℕ)
hexadecimal text = bytes_of_digits (filter (λ byte. not (is_white byte)) text)
