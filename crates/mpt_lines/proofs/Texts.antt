-- The words of printed lines, read back.
use Rattle.std.proofs.Common.{rules, append_assoc, lit<, if◌then◌else◌, zero, suc, ◌||◌, not, ◌≡◌, ℕ, ◌+◌, ◌-◌, ◌*◌, ◌/◌, ◌%◌, ◌^◌, ◌<◌, ◌≤◌, ◌==◌, ◌&&◌, nat_le, min, Bool, true, false, cond, List, [], ◌∷◌, ◌++◌, length, get_or, fold, Result, Ok, Err, Some, is_some, slice_index, refl, sym, ◌∙◌, ap, subst, arith, decimal}
use Rattle.std.specs.List.{list_all, onto_first}
use Rattle.std.proofs.lemmas.Bool.{and_parts}
use Rattle.std.proofs.lemmas.Grind.{common_steps}
use Rattle.std.proofs.lemmas.Fmt.{decimal_digit, decimal_nonempty, digits_decimal, digits_value-decimal, first_decimal}
use Rattle.std.proofs.lemmas.Str.Parse.{IsNumeralModel, numerals_by_fold}
use Rattle.hex.specs.Hex.{IsBytes, encode_lower, encode_with, hex_digit_value, is_hex_digit, lower_digits}
use Rattle.hex.proofs.HexLemmas.{IsDigits-lower_digits, decode_sized-encode_lower, length-encode_with}
use Rattle.byteorder.specs.Endian.{big_bytes}
use Rattle.std.specs.Int.{byte_at, bytes_high_first, w64, from_be_bytes}
use Rattle.mpt_trace.specs.Numbers.{address_text, byte_text}
use Rattle.mpt_lines.specs.Numbers.{address, byte, cdb, checked_bytes, decimal_value, digits, formed, is_decimal_digit, is_numeral, number, within, ◌>>=◌}
use Rattle.mpt_lines.specs.declared.fault.Cause.{Cause}
use Rattle.mpt_lines.specs.declared.fault.Cause.TheVariants.{Range}
use Rattle.std.proofs.lemmas.Nat.{from_be_bytes-to_be_bytes_8}
use Rattle.mpt_lines.specs.Words.{lines, words}

-- no byte of a word is a control character, a space or `#`
abbrev pub is_word : List ℕ → Bool
is_word word = list_all (λ b. nat_le 36 b) word

not_space : (b : ℕ) → nat_le 36 b ≡ true → (b == 32) ≡ false
not_space b h = grind (arith, common_steps, h)

-- a word and a space
pub words_first : (word rest : List ℕ) → is_word word ≡ true → words (word ++ 32 ∷ rest) ≡ word ∷ words rest
words_first [] rest h = refl
words_first (b ∷ word) rest h =
    let parts = and_parts (nat_le 36 b) (is_word word) h in
    rw (not_space b parts.0, words_first word rest parts.1) refl

-- the last word
pub words_last : (word : List ℕ) → is_word word ≡ true → words word ≡ word ∷ []
words_last [] h = refl
words_last (b ∷ word) h =
    let parts = and_parts (nat_le 36 b) (is_word word) h in
    rw (not_space b parts.0, words_last word parts.1) refl

-- ---- decimal numbers

own : IsNumeralModel (λ ds. list_all is_decimal_digit ds ≡ true) decimal_value
own = numerals_by_fold _ (search rules) (λ n ds. fold (λ value digit. value * 10 + (digit - 48)) n ds) (search rules)

digits_word : (ds : List ℕ) → list_all is_decimal_digit ds ≡ true → is_word ds ≡ true
digits_word [] h = refl
digits_word (d ∷ ds) h =
    let parts = and_parts (is_decimal_digit d) (list_all is_decimal_digit ds) h in
    rw (digits_word ds parts.1) (grind (arith, common_steps, parts.0))

pub word_decimal : (n : ℕ) → n < 2 ^ 64 → is_word (decimal n) ≡ true
word_decimal n small = digits_word (decimal n) (digits_decimal own n small)

-- digits without a leading zero
numeral : (ds : List ℕ) → 0 < length ds → list_all is_decimal_digit ds ≡ true → ((length ds == 1) || not (get_or ds 0 0 == 48)) ≡ true → is_numeral ds ≡ true
numeral ds some all lead =
    let enough : nat_le 1 (length ds) ≡ true = grind (arith, common_steps, some) in
    rw (enough, all, lead) refl

value_small : (ds : List ℕ) (n : ℕ) → is_numeral ds ≡ true → decimal_value ds ≡ n → n < 2 ^ 64 → number ds ≡ Ok n
value_small ds n is value small =
    let least : min n (2 ^ 64) ≡ n = omega arith in
    rw (is, value, least) refl

lead_of : (n : ℕ) → 0 < n → n < 2 ^ 64 → ((length (decimal n) == 1) || not (get_or (decimal n) 0 0 == 48)) ≡ true
lead_of n some small =
    let first = first_decimal n some small in
    let other : (get_or (decimal n) 0 0 == 48) ≡ false = grind (arith, common_steps, first) in
    rw other (grind (arith, common_steps))

-- the value of a printed number
pub number_decimal : (n : ℕ) → n < 2 ^ 64 → number (decimal n) ≡ Ok n
number_decimal zero small = ap number (decimal_digit zero (omega arith))
number_decimal (suc n) small =
    value_small (decimal (suc n)) (suc n)
    (numeral (decimal (suc n)) (decimal_nonempty (suc n) small) (digits_decimal own (suc n) small) (lead_of (suc n) (omega arith) small))
    (digits_value-decimal own (suc n) small) small

-- ---- hexadecimal digits

digit_word : (c v : ℕ) → hex_digit_value c ≡ Some v → nat_le 36 c ≡ true
digit_word c v e = grind (arith, common_steps, e)

pub word_encode : (xs : List ℕ) → IsBytes xs → is_word (encode_lower xs) ≡ true
unfolding encode_with
word_encode [] h = refl
word_encode (b ∷ xs) h =
    let small : b < 256 = h 0 in
    let high = digit_word (slice_index lower_digits (b / 16)) (b / 16) (IsDigits-lower_digits (b / 16) (omega arith)) in
    let low = digit_word (slice_index lower_digits (b % 16)) (b % 16) (IsDigits-lower_digits (b % 16) (omega arith)) in
    rw (high, low, word_encode xs (λ i. h (suc i))) refl

digit_hex : (c v : ℕ) → hex_digit_value c ≡ Some v → is_hex_digit c ≡ true
digit_hex c v e = ap is_some e

hex_encode : (xs : List ℕ) → IsBytes xs → list_all is_hex_digit (encode_lower xs) ≡ true
unfolding encode_with
hex_encode [] h = refl
hex_encode (b ∷ xs) h =
    let small : b < 256 = h 0 in
    let high = digit_hex (slice_index lower_digits (b / 16)) (b / 16) (IsDigits-lower_digits (b / 16) (omega arith)) in
    let low = digit_hex (slice_index lower_digits (b % 16)) (b % 16) (IsDigits-lower_digits (b % 16) (omega arith)) in
    rw (high, low, hex_encode xs (λ i. h (suc i))) refl

pub digits_encode : (n : ℕ) (xs : List ℕ) → length xs ≡ n → IsBytes xs → digits n (encode_lower xs) ≡ Ok xs
digits_encode n xs same h = ap formed (decode_sized-encode_lower xs n same h)

cdb_at : (word xs : List ℕ) (n : ℕ) → length word / 2 ≡ n → nat_le n 32 ≡ true → digits n word ≡ Ok xs → cdb word ≡ Ok xs
cdb_at word xs n half enough is =
    let P : ℕ → Type 0 = λ k. (if nat_le k 32 then digits k word else Err Range) ≡ Ok xs in
    subst P (sym half) (rw enough is)

-- a command descriptor block
pub cdb_encode : (xs : List ℕ) → length xs ≤ 32 → IsBytes xs → cdb (encode_lower xs) ≡ Ok xs
cdb_encode xs short h =
    let len = length-encode_with lower_digits xs in
    cdb_at (encode_lower xs) xs (length xs) (omega (arith, len)) (grind (arith, common_steps, short)) (digits_encode (length xs) xs refl h)

pub bytes_encode : (xs : List ℕ) → 1 ≤ length xs → IsBytes xs → checked_bytes (encode_lower xs) ≡ Ok tt
bytes_encode xs some h =
    let len = length-encode_with lower_digits xs in
    let first : nat_le 1 (length (encode_lower xs)) ≡ true = grind (arith, common_steps, len, some) in
    let even : length (encode_lower xs) % 2 ≡ 0 = omega (arith, len) in
    rw (first, even, hex_encode xs h) refl

byte_small : (i x : ℕ) → byte_at i x < 256
byte_small zero x = omega arith
byte_small (suc i) x = omega arith

bytes_small : (n x : ℕ) → IsBytes (bytes_high_first n x)
bytes_small zero x i = lit< tt
bytes_small (suc n) x zero = byte_small n x
bytes_small (suc n) x (suc i) = bytes_small n x i

-- an address
pub address_address_text : (a : ℕ) → a < 2 ^ 64 → address (address_text a) ≡ Ok a
address_address_text a small =
    ap (λ (r : Result (List ℕ) Cause). r >>= (λ bytes. Ok (from_be_bytes w64 bytes))) (digits_encode 8 (big_bytes 8 a) refl (bytes_small 8 a)) ∙ ap Ok (from_be_bytes-to_be_bytes_8 a small)

pub word_address_text : (a : ℕ) → is_word (address_text a) ≡ true
word_address_text a = word_encode (big_bytes 8 a) (bytes_small 8 a)

-- a byte
pub byte_byte_text : (b : ℕ) → b < 256 → byte (byte_text b) ≡ Ok b
byte_byte_text b small =
    let own_byte : b % 256 ≡ b = omega arith in
    ap (λ (r : Result (List ℕ) Cause). r >>= (λ bytes. Ok (slice_index bytes 0))) (digits_encode 1 (big_bytes 1 b) refl (bytes_small 1 b)) ∙ ap Ok own_byte

pub word_byte_text : (b : ℕ) → is_word (byte_text b) ≡ true
word_byte_text b = word_encode (big_bytes 1 b) (bytes_small 1 b)

-- ---- the words of a line

-- a word, a space and more
pub words_more : (word rest : List ℕ) → is_word word ≡ true → words ((word ++ 32 ∷ []) ++ rest) ≡ word ∷ words rest
words_more word rest h = rw (append_assoc word (32 ∷ []) rest) (words_first word rest h)

-- two words
pub words_two : (first second : List ℕ) → is_word first ≡ true → is_word second ≡ true → words ((first ++ 32 ∷ []) ++ second) ≡ first ∷ second ∷ []
words_two first second h k = words_more first second h ∙ ap (λ ws. first ∷ ws) (words_last second k)

-- two words and more
pub words_two_more : (first second rest : List ℕ) → is_word first ≡ true → is_word second ≡ true → words ((((first ++ 32 ∷ []) ++ second) ++ 32 ∷ []) ++ rest) ≡ first ∷ second ∷ words rest
words_two_more first second rest h k =
    let grouped : (((first ++ 32 ∷ []) ++ second) ++ 32 ∷ []) ++ rest ≡ first ++ 32 ∷ (second ++ 32 ∷ rest) = simp append_assoc in
    rw grouped (words_first first (second ++ 32 ∷ rest) h ∙ ap (λ ws. first ∷ ws) (words_first second rest k))

-- three words
pub words_three : (first second third : List ℕ) → is_word first ≡ true → is_word second ≡ true → is_word third ≡ true → words ((((first ++ 32 ∷ []) ++ second) ++ 32 ∷ []) ++ third) ≡ first ∷ second ∷ third ∷ []
words_three first second third h k l = words_two_more first second third h k ∙ ap (λ ws. first ∷ second ∷ ws) (words_last third l)

-- ---- ranges

pub within_range : (low high n : ℕ) → (nat_le low n && nat_le n high) ≡ true → within low high n ≡ Ok n
within_range low high n h = rw h refl

pub within_most : (high n : ℕ) → nat_le n high ≡ true → within 0 high n ≡ Ok n
within_most high n h =
    let least : nat_le 0 n ≡ true = grind (arith, common_steps) in
    rw (least, h) refl

pub small_of : (most n : ℕ) → most < 2 ^ 64 → nat_le n most ≡ true → n < 2 ^ 64
small_of most n room h = grind (arith, common_steps, h)

-- ---- the lines of a text

-- no byte of a line is a control character
abbrev pub is_line : List ℕ → Bool
is_line line = list_all (λ b. nat_le 32 b) line

not_end : (b : ℕ) → nat_le 32 b ≡ true → (b == 10) ≡ false
not_end b h = grind (arith, common_steps, h)

-- a line and its end
pub lines_first : (line rest : List ℕ) → is_line line ≡ true → lines (line ++ 10 ∷ rest) ≡ line ∷ lines rest
lines_first [] rest h = refl
lines_first (b ∷ line) rest h =
    let parts = and_parts (nat_le 32 b) (is_line line) h in
    rw (not_end b parts.0, lines_first line rest parts.1) refl

-- a byte in front of the first of some words
onto_words : (b : ℕ) (ws : List (List ℕ)) → list_all is_word (onto_first b ws) ≡ true → (nat_le 36 b ≡ true) × (list_all is_word ws ≡ true)
onto_words b [] h = ((and_parts (nat_le 36 b) true (and_parts (is_word (b ∷ [])) true h).0).0, refl)
onto_words b (w ∷ ws) h =
    let parts = and_parts (is_word (b ∷ w)) (list_all is_word ws) h in
    let first = and_parts (nat_le 36 b) (is_word w) parts.0 in
    (first.0, rw (first.1, parts.1) refl)

-- words and spaces are a line
pub words_line : (line : List ℕ) → list_all is_word (words line) ≡ true → is_line line ≡ true
words_line [] h = refl
words_line (b ∷ line) h = spaced (b == 32) refl h (words_line line)
  where
    spaced : (space : Bool) → (b == 32) ≡ space → list_all is_word (cond space ([] ∷ words line) (onto_first b (words line))) ≡ true → (list_all is_word (words line) ≡ true → is_line line ≡ true) → is_line (b ∷ line) ≡ true
    spaced true is h rest =
        let at : nat_le 32 b ≡ true = grind (arith, common_steps, is) in
        rw (at, rest h) refl
    spaced false is h rest =
        let parts = onto_words b (words line) h in
        let at : nat_le 32 b ≡ true = grind (arith, common_steps, parts.0) in
        rw (at, rest parts.1) refl

heads : {v w : List ℕ} {vs ws : List (List ℕ)} → v ∷ vs ≡ w ∷ ws → v ≡ w
heads e = cc

-- a line with a first word begins with a byte of it
pub words_begin : (line word : List ℕ) (others : List (List ℕ)) → words line ≡ word ∷ others → is_word word ≡ true → (length word == 0) ≡ false → ((length line == 0) || (slice_index line 0 == 35)) ≡ false
words_begin [] word others e h some = absurd (grind (arith, common_steps, e, some))
words_begin (b ∷ line) word others e h some = begun (b == 32) refl e
  where
    first_of : (ws : List (List ℕ)) → onto_first b ws ≡ word ∷ others → nat_le 36 b ≡ true
    first_of [] is = (and_parts (nat_le 36 b) true (rw (← (heads is)) at h)).0
    first_of (w ∷ ws) is = (and_parts (nat_le 36 b) (is_word w) (rw (← (heads is)) at h)).0

    begun : (space : Bool) → (b == 32) ≡ space → cond space ([] ∷ words line) (onto_first b (words line)) ≡ word ∷ others → ((length (b ∷ line) == 0) || (b == 35)) ≡ false
    begun true is e = absurd (grind (arith, common_steps, heads e, some))
    begun false is e =
        let at = first_of (words line) e in
        grind (arith, common_steps, at)
