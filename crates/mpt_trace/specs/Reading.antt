-- Lines read back: what a line of a trace says, by its words.
use Rattle.std.specs.Prelude.{ℕ, ◌^◌, ◌<◌, ◌==◌, ◌&&◌, Bool, true, false, if◌then◌else◌, Option, Some, None, Result, Ok, Err, List, [], ◌∷◌, codes, length, replicate}
use Rattle.std.specs.Str.Parse.{digits_value}
use Rattle.byteorder.specs.Endian.{big_number, little_number}
use Rattle.hex.specs.Hex.{IsBytes, decode_of}
use Rattle.hex.specs.declared.error.FromHexError.{FromHexError}

-- ---- words

-- the byte in front of the first word
abbrev pub onto : ℕ → List (List ℕ) → List (List ℕ)
onto c [] = (c ∷ []) ∷ []
onto c (word ∷ rest) = (c ∷ word) ∷ rest

-- the parts of a text between separators
abbrev pub parts : ℕ → List ℕ → List (List ℕ)
parts separator [] = [] ∷ []
parts separator (c ∷ rest) = if c == separator then [] ∷ parts separator rest else onto c (parts separator rest)

-- the words of a line: its parts between spaces
abbrev pub words : List ℕ → List (List ℕ)
words text = parts 32 text

-- the word is this one
abbrev pub is_word : List ℕ → List ℕ → Bool
is_word [] [] = true
is_word (a ∷ word) (b ∷ other) = (a == b) && is_word word other
is_word _ _ = false

-- ---- values

-- a decimal number
abbrev pub number : List ℕ → ℕ
number word = digits_value 10 word

abbrev pub bytes_or_none : Result (List ℕ) FromHexError → List ℕ
bytes_or_none (Ok bytes) = bytes
bytes_or_none (Err e) = []

-- the bytes of hexadecimal digits, two digits for each
abbrev pub bytes_of_digits : List ℕ → List ℕ
bytes_of_digits word = bytes_or_none (decode_of word)

-- a number in hexadecimal digits, two for each byte, the highest first
abbrev pub hexadecimal : ℕ → List ℕ → ℕ
hexadecimal width word = big_number width (bytes_of_digits word)

-- a descriptor, the little-endian number of its bytes
abbrev pub descriptor_in : List ℕ → ℕ
descriptor_in word = little_number 8 (bytes_of_digits word)

abbrev pub bytes_of_parts : List (List ℕ) → List ℕ
bytes_of_parts (digits ∷ []) = bytes_of_digits digits
bytes_of_parts (count ∷ byte ∷ []) = replicate (number count) (hexadecimal 1 byte)
bytes_of_parts _ = []

-- the bytes text: digits, or a count, `*` and a byte; `-` has no bytes
abbrev pub bytes_in : List ℕ → List ℕ
bytes_in word = bytes_of_parts (parts 42 word)

-- a frame, or `-`
abbrev pub frame_in : List ℕ → Option (List ℕ)
frame_in word = if is_word word (codes "-") then None else Some (bytes_of_digits word)

-- ---- ranges

-- a number that a decimal word can say
abbrev pub IsNumber : ℕ → Type 0
IsNumber n = n < 2 ^ 64

-- a list of bytes whose length a decimal word can say
abbrev pub IsData : List ℕ → Type 0
IsData bytes = IsBytes bytes × IsNumber (length bytes)
