-- Words and values are read back.
use Rattle.std.proofs.Common.{◌≡◌, ℕ, zero, suc, ◌/◌, ◌%◌, ◌^◌, ◌<◌, ◌==◌, Bool, true, false, ◌⊎◌, inl, inr, Option, Some, None, List, [], ◌∷◌, ◌++◌, length, replicate, codes, decimal, slice_index, refl, sym, ap, ◌∙◌, append_assoc, append-nil, arith, if◌then◌else◌, nat_le, lit<}
use Rattle.std.proofs.Math.Bool.{and-false}
use Rattle.std.proofs.lemmas.Bool.{eqb-true, and_parts}
use Rattle.std.proofs.lemmas.Fmt.{decimal_is_IsNumeral}
use Rattle.std.specs.Int.{byte_at, bytes_high_first, bytes_low_first}
use Rattle.std.specs.Char.{digit_value}
use Rattle.std.specs.List.{list_all}
use Rattle.std.specs.Str.Parse.{AllDigits}
use Rattle.byteorder.specs.Endian.{big_bytes, big_number, little_bytes, little_number}
use Rattle.byteorder.specs.Numbers.{big_number-reads_back, little_number-reads_back}
use Rattle.hex.specs.Hex.{IsBytes, encode_lower, encode_with, lower_digits}
use Rattle.hex.proofs.HexLemmas.{decode_of-encode_lower}
use Rattle.mpt_text.specs.Words.{bytes_text, hex_number, is_run, run_text}
use Rattle.mpt_trace.specs.Numbers.{descriptor_text}
use Rattle.mpt_trace.specs.Items.{frame_text}
use Rattle.mpt_trace.specs.ReadingItems.{IsFrame}
use Rattle.mpt_trace.specs.Reading.{IsData, IsNumber, bytes_in, bytes_of_digits, bytes_of_parts, bytes_or_none, descriptor_in, frame_in, hexadecimal, is_word, number, onto, parts, words}

-- ---- parts

-- no byte is a separator
abbrev pub IsFree : ℕ → List ℕ → Type 0
IsFree s [] = Unit {0}
IsFree s (c ∷ cs) = ((c == s) ≡ false) × IsFree s cs

pub free-append : (s : ℕ) (a b : List ℕ) → IsFree s a → IsFree s b → IsFree s (a ++ b)
free-append s [] b ha hb = hb
free-append s (c ∷ cs) b ha hb = (ha.0, free-append s cs b ha.1 hb)

-- a part ends at a separator
pub split : (s : ℕ) (w rest : List ℕ) → (s == s) ≡ true → IsFree s w → parts s (w ++ s ∷ rest) ≡ w ∷ parts s rest
split s [] rest same h = rw same refl
split s (c ∷ cs) rest same h = rw (h.0) (ap (onto c) (split s cs rest same h.1))

-- or at the end
pub whole : (s : ℕ) (w : List ℕ) → IsFree s w → parts s w ≡ w ∷ []
whole s [] h = refl
whole s (c ∷ cs) h = rw (h.0) (ap (onto c) (whole s cs h.1))

-- ---- digits

bool_cases : (b : Bool) → (b ≡ true) ⊎ (b ≡ false)
bool_cases true = inl refl
bool_cases false = inr refl

not_digit : (s c : ℕ) → digit_value s ≡ 36 → digit_value c < 10 → (c == s) ≡ false
not_digit s c wide small =
    elim (bool_cases (c == s)) [
      | inl equal ↦
          let e : digit_value c ≡ 36 = ap digit_value (eqb-true c s equal) ∙ wide in
          absurd (omega arith)
      | inr other ↦ other
    ]

free-digits : (s : ℕ) (ds : List ℕ) → digit_value s ≡ 36 → AllDigits 10 ds → IsFree s ds
free-digits s [] wide h = tt
free-digits s (c ∷ cs) wide h = (not_digit s c wide h.0, free-digits s cs wide h.1)

pub free-decimal : (s n : ℕ) → digit_value s ≡ 36 → IsNumber n → IsFree s (decimal n)
free-decimal s n wide h = free-digits s (decimal n) wide (decimal_is_IsNumeral n h).0.1

pub number-decimal : (n : ℕ) → IsNumber n → number (decimal n) ≡ n
number-decimal n h = (decimal_is_IsNumeral n h).1

-- a table's digits, and the 0 past them, are no separators
abbrev pub IsFreeTable : ℕ → Type 0
IsFreeTable s = (k : ℕ) → (slice_index lower_digits k == s) ≡ false

pub free-encode : (s : ℕ) (bytes : List ℕ) → IsFreeTable s → IsFree s (encode_lower bytes)
unfolding encode_with
free-encode s [] table = tt
free-encode s (b ∷ rest) table = (table (b / 16), (table (b % 16), free-encode s rest table))

space_table : IsFreeTable 32
space_table zero = refl
space_table (suc zero) = refl
space_table (suc (suc zero)) = refl
space_table (suc (suc (suc zero))) = refl
space_table (suc (suc (suc (suc zero)))) = refl
space_table (suc (suc (suc (suc (suc zero))))) = refl
space_table (suc (suc (suc (suc (suc (suc zero)))))) = refl
space_table (suc (suc (suc (suc (suc (suc (suc zero))))))) = refl
space_table (suc (suc (suc (suc (suc (suc (suc (suc zero)))))))) = refl
space_table (suc (suc (suc (suc (suc (suc (suc (suc (suc zero))))))))) = refl
space_table (suc (suc (suc (suc (suc (suc (suc (suc (suc (suc zero)))))))))) = refl
space_table (suc (suc (suc (suc (suc (suc (suc (suc (suc (suc (suc zero))))))))))) = refl
space_table (suc (suc (suc (suc (suc (suc (suc (suc (suc (suc (suc (suc zero)))))))))))) = refl
space_table (suc (suc (suc (suc (suc (suc (suc (suc (suc (suc (suc (suc (suc zero))))))))))))) = refl
space_table (suc (suc (suc (suc (suc (suc (suc (suc (suc (suc (suc (suc (suc (suc zero)))))))))))))) = refl
space_table (suc (suc (suc (suc (suc (suc (suc (suc (suc (suc (suc (suc (suc (suc (suc zero))))))))))))))) = refl
space_table (suc (suc (suc (suc (suc (suc (suc (suc (suc (suc (suc (suc (suc (suc (suc (suc k)))))))))))))))) = refl

star_table : IsFreeTable 42
star_table zero = refl
star_table (suc zero) = refl
star_table (suc (suc zero)) = refl
star_table (suc (suc (suc zero))) = refl
star_table (suc (suc (suc (suc zero)))) = refl
star_table (suc (suc (suc (suc (suc zero))))) = refl
star_table (suc (suc (suc (suc (suc (suc zero)))))) = refl
star_table (suc (suc (suc (suc (suc (suc (suc zero))))))) = refl
star_table (suc (suc (suc (suc (suc (suc (suc (suc zero)))))))) = refl
star_table (suc (suc (suc (suc (suc (suc (suc (suc (suc zero))))))))) = refl
star_table (suc (suc (suc (suc (suc (suc (suc (suc (suc (suc zero)))))))))) = refl
star_table (suc (suc (suc (suc (suc (suc (suc (suc (suc (suc (suc zero))))))))))) = refl
star_table (suc (suc (suc (suc (suc (suc (suc (suc (suc (suc (suc (suc zero)))))))))))) = refl
star_table (suc (suc (suc (suc (suc (suc (suc (suc (suc (suc (suc (suc (suc zero))))))))))))) = refl
star_table (suc (suc (suc (suc (suc (suc (suc (suc (suc (suc (suc (suc (suc (suc zero)))))))))))))) = refl
star_table (suc (suc (suc (suc (suc (suc (suc (suc (suc (suc (suc (suc (suc (suc (suc zero))))))))))))))) = refl
star_table (suc (suc (suc (suc (suc (suc (suc (suc (suc (suc (suc (suc (suc (suc (suc (suc k)))))))))))))))) = refl

pub line_table : IsFreeTable 10
line_table zero = refl
line_table (suc zero) = refl
line_table (suc (suc zero)) = refl
line_table (suc (suc (suc zero))) = refl
line_table (suc (suc (suc (suc zero)))) = refl
line_table (suc (suc (suc (suc (suc zero))))) = refl
line_table (suc (suc (suc (suc (suc (suc zero)))))) = refl
line_table (suc (suc (suc (suc (suc (suc (suc zero))))))) = refl
line_table (suc (suc (suc (suc (suc (suc (suc (suc zero)))))))) = refl
line_table (suc (suc (suc (suc (suc (suc (suc (suc (suc zero))))))))) = refl
line_table (suc (suc (suc (suc (suc (suc (suc (suc (suc (suc zero)))))))))) = refl
line_table (suc (suc (suc (suc (suc (suc (suc (suc (suc (suc (suc zero))))))))))) = refl
line_table (suc (suc (suc (suc (suc (suc (suc (suc (suc (suc (suc (suc zero)))))))))))) = refl
line_table (suc (suc (suc (suc (suc (suc (suc (suc (suc (suc (suc (suc (suc zero))))))))))))) = refl
line_table (suc (suc (suc (suc (suc (suc (suc (suc (suc (suc (suc (suc (suc (suc zero)))))))))))))) = refl
line_table (suc (suc (suc (suc (suc (suc (suc (suc (suc (suc (suc (suc (suc (suc (suc zero))))))))))))))) = refl
line_table (suc (suc (suc (suc (suc (suc (suc (suc (suc (suc (suc (suc (suc (suc (suc (suc k)))))))))))))))) = refl

pub word-encode : (bytes : List ℕ) → IsFree 32 (encode_lower bytes)
word-encode bytes = free-encode 32 bytes space_table

pub word-hex : (width n : ℕ) → IsFree 32 (hex_number width n)
word-hex width n = word-encode (big_bytes width n)

pub word-descriptor : (d : ℕ) → IsFree 32 (descriptor_text d)
word-descriptor d = word-encode (little_bytes 8 d)

pub word-decimal : (n : ℕ) → IsNumber n → IsFree 32 (decimal n)
word-decimal n h = free-decimal 32 n refl h

pub word-bytes : (bytes : List ℕ) → IsData bytes → IsFree 32 (bytes_text bytes)
word-bytes [] h = (refl, tt)
word-bytes (first ∷ others) h =
    elim (is_run first others) as (λ run. IsFree 32 (if run then run_text (length (first ∷ others)) first else encode_lower (first ∷ others))) [
      | true ↦ free-append 32 (decimal (length (first ∷ others)) ++ codes "*") (encode_lower (first ∷ [])) (free-append 32 (decimal (length (first ∷ others))) (codes "*") (word-decimal (length (first ∷ others)) h.1) (refl, tt)) (word-encode (first ∷ []))
      | false ↦ word-encode (first ∷ others)
    ]

-- ---- values

pub digits_back : (bytes : List ℕ) → IsBytes bytes → bytes_of_digits (encode_lower bytes) ≡ bytes
digits_back bytes h = ap bytes_or_none (decode_of-encode_lower bytes h)

byte_head : (b : ℕ) (rest : List ℕ) → b < 256 → IsBytes rest → IsBytes (b ∷ rest)
byte_head b rest h hs zero = h
byte_head b rest h hs (suc k) = hs k

no_bytes : IsBytes []
no_bytes k = lit< tt

below_256 : (m : ℕ) → m % 256 < 256
below_256 m = omega arith

byte_small : (k n : ℕ) → byte_at k n < 256
byte_small zero n = omega arith
byte_small (suc k) n = below_256 (n / 256 ^ suc k)

bytes_high : (width n : ℕ) → IsBytes (bytes_high_first width n)
bytes_high zero n = no_bytes
bytes_high (suc width) n = byte_head (byte_at width n) (bytes_high_first width n) (byte_small width n) (bytes_high width n)

bytes_low : (i width n : ℕ) → IsBytes (bytes_low_first i width n)
bytes_low i zero n = no_bytes
bytes_low i (suc width) n = byte_head (byte_at i n) (bytes_low_first (suc i) width n) (byte_small i n) (bytes_low (suc i) width n)

pub hex_back : (width n : ℕ) → n < 256 ^ width → hexadecimal width (hex_number width n) ≡ n
hex_back width n h =
    ap (big_number width) (digits_back (big_bytes width n) (bytes_high width n))
    ∙ ap (big_number width) (sym (append-nil (big_bytes width n))) ∙ big_number-reads_back width n [] h

pub descriptor_back : (d : ℕ) → d < 256 ^ 8 → descriptor_in (descriptor_text d) ≡ d
descriptor_back d h =
    ap (little_number 8) (digits_back (little_bytes 8 d) (bytes_low 0 8 d))
    ∙ ap (little_number 8) (sym (append-nil (little_bytes 8 d))) ∙ little_number-reads_back 8 d [] h

-- a run is its first byte over and over
run_repeats : (first : ℕ) (others : List ℕ) → list_all (λ byte. byte == first) others ≡ true → replicate (length others) first ≡ others
run_repeats first [] h = refl
run_repeats first (b ∷ rest) h =
    let both = and_parts (b == first) (list_all (λ byte. byte == first) rest) h in
    ap (λ (x : ℕ). x ∷ replicate (length rest) first) (sym (eqb-true b first both.0)) ∙ ap (λ xs. b ∷ xs) (run_repeats first rest both.1)

one_byte : (b : ℕ) → b < 256 → hexadecimal 1 (encode_lower (b ∷ [])) ≡ b
one_byte b h = ap (big_number 1) (digits_back (b ∷ []) (byte_head b [] h no_bytes)) ∙ omega arith

run_back : (first : ℕ) (others : List ℕ) (run : Bool) → is_run first others ≡ run → IsData (first ∷ others) → bytes_in (if run then run_text (length (first ∷ others)) first else encode_lower (first ∷ others)) ≡ first ∷ others
run_back first others false e h = ap bytes_of_parts (whole 42 (encode_lower (first ∷ others)) (free-encode 42 (first ∷ others) star_table)) ∙ digits_back (first ∷ others) h.0
run_back first others true e h =
    let n = length (first ∷ others) in
    let enc = encode_lower (first ∷ []) in
    let at_star : parts 42 (decimal n ++ 42 ∷ enc) ≡ decimal n ∷ parts 42 enc = split 42 (decimal n) enc refl (free-decimal 42 n refl h.1) in
    let last : parts 42 enc ≡ enc ∷ [] = whole 42 enc (free-encode 42 (first ∷ []) star_table) in
    let cut : parts 42 ((decimal n ++ codes "*") ++ enc) ≡ decimal n ∷ enc ∷ [] = ap (parts 42) (append_assoc (decimal n) (codes "*") enc) ∙ at_star ∙ ap (λ ps. decimal n ∷ ps) last in
    let both = and_parts (nat_le 15 (length others)) (list_all (λ byte. byte == first) others) e in
    ap bytes_of_parts cut
    ∙ ap (λ (k : ℕ). replicate k (hexadecimal 1 enc)) (number-decimal n h.1)
    ∙ ap (λ (b : ℕ). replicate n b) (one_byte first (h.0 0))
    ∙ ap (λ xs. first ∷ xs) (run_repeats first others both.1)

pub bytes_back : (bytes : List ℕ) → IsData bytes → bytes_in (bytes_text bytes) ≡ bytes
bytes_back [] h = refl
bytes_back (first ∷ others) h = run_back first others (is_run first others) refl h

no_dash : (bytes : List ℕ) → is_word (encode_lower bytes) (codes "-") ≡ false
unfolding encode_with
no_dash [] = refl
no_dash (b ∷ rest) = and-false (slice_index lower_digits (b / 16) == 45)

pub frame_back : (frame : Option (List ℕ)) → IsFrame frame → frame_in (frame_text frame) ≡ frame
frame_back None h = refl
frame_back (Some frame) h = rw (no_dash frame) (ap Some (digits_back frame h))

pub word-frame : (frame : Option (List ℕ)) → IsFree 32 (frame_text frame)
word-frame None = (refl, tt)
word-frame (Some frame) = word-encode frame

-- ---- words one after another

abbrev space : List ℕ
space = codes " "

pub last : (a : List ℕ) → IsFree 32 a → words a ≡ a ∷ []
last a ha = whole 32 a ha

pub first : (a rest : List ℕ) → IsFree 32 a → words (a ++ space ++ rest) ≡ a ∷ words rest
first a rest ha = ap words (append_assoc a space rest) ∙ split 32 a rest refl ha

pub two : (a b rest : List ℕ) → IsFree 32 a → IsFree 32 b → words (a ++ space ++ b ++ space ++ rest) ≡ a ∷ b ∷ words rest
two a b rest ha hb =
    let e : a ++ space ++ b ++ space ++ rest ≡ a ++ 32 ∷ (b ++ 32 ∷ rest) = simp append_assoc in
    ap words e ∙ split 32 a (b ++ 32 ∷ rest) refl ha ∙ ap (λ ws. a ∷ ws) (split 32 b rest refl hb)

pub three : (a b c rest : List ℕ) → IsFree 32 a → IsFree 32 b → IsFree 32 c → words (a ++ space ++ b ++ space ++ c ++ space ++ rest) ≡ a ∷ b ∷ c ∷ words rest
three a b c rest ha hb hc =
    let e : a ++ space ++ b ++ space ++ c ++ space ++ rest ≡ a ++ 32 ∷ (b ++ 32 ∷ (c ++ 32 ∷ rest)) = simp append_assoc in
    ap words e ∙ split 32 a (b ++ 32 ∷ (c ++ 32 ∷ rest)) refl ha ∙ ap (λ ws. a ∷ ws) (split 32 b (c ++ 32 ∷ rest) refl hb ∙ ap (λ ws. b ∷ ws) (split 32 c rest refl hc))

pub pair : (a b : List ℕ) → IsFree 32 a → IsFree 32 b → words (a ++ space ++ b) ≡ a ∷ b ∷ []
pair a b ha hb = first a b ha ∙ ap (λ ws. a ∷ ws) (last b hb)

pub triple : (a b c : List ℕ) → IsFree 32 a → IsFree 32 b → IsFree 32 c → words (a ++ space ++ b ++ space ++ c) ≡ a ∷ b ∷ c ∷ []
triple a b c ha hb hc = two a b c ha hb ∙ ap (λ ws. a ∷ b ∷ ws) (last c hc)
