-- Hexadecimal digits read one at a time.
use Rattle.std.proofs.Common.{◌≡◌, ℕ, suc, ◌+◌, ◌*◌, ◌%◌, Bool, true, false, not, List, [], ◌∷◌, ◌++◌, length, drop, get_or, refl, sym, ap, ◌∙◌, arith, append_assoc, ◌<◌, ◌≤◌, inl, inr}
use Rattle.std.specs.Prelude.{Option, Some, None, Result, Ok, Err, filter, cond}
use Rattle.std.specs.Option.{option_map}
use Rattle.std.specs.Result.{result_ok}
use Rattle.std.proofs.lemmas.Bool.{cases_eq}
use Rattle.std.proofs.Math.Seq.{drop-cons}
use Rattle.std.proofs.lemmas.List.{append-nil, drop_all}
use Rattle.hex.specs.declared.error.FromHexError.{FromHexError}
use Rattle.hex.specs.Hex.{hex_digit_value, digit_or_error, decode_pairs, ◌>>=◌}
use Rattle.hex.proofs.HexLemmas.{decode_pairs-ok, decode_of-odd, decode_of-even}
use Rattle.mpt_text.specs.Hexadecimal.{is_white, bytes_of_digits, hexadecimal}

-- a digit's value is there, or not: it waits for a second digit, or makes a byte with the one that waited
abbrev pub digit_read : Option ℕ → Option ℕ → (Option ℕ → Option (List ℕ)) → Option (List ℕ)
digit_read high None rest = None
digit_read None (Some v) rest = rest (Some v)
digit_read (Some h) (Some v) rest = option_map (λ bytes. (h * 16 + v) ∷ bytes) (rest None)

-- the bytes of digits, where one before them may wait for its second
pub bytes_after : List ℕ → Option ℕ → Option (List ℕ)
bytes_after [] None = Some []
bytes_after [] (Some h) = None
bytes_after (digit ∷ rest) high = digit_read high (hex_digit_value digit) (bytes_after rest)

pair_read : (i c d : ℕ) (vh vl : Option ℕ) (r : Result (List ℕ) FromHexError) (k : Option ℕ → Option (List ℕ)) → result_ok r ≡ k None
    → result_ok ((digit_or_error c i vh >>= (λ h. digit_or_error d (i + 1) vl >>= (λ l. Ok (h * 16 + l)))) >>= (λ byte. r >>= (λ bytes. Ok (byte ∷ bytes)))) ≡ digit_read None vh (λ high. digit_read high vl k)
pair_read i c d None vl r k same = refl
pair_read i c d (Some h) None r k same = refl
pair_read i c d (Some h) (Some l) (Ok bytes) k same = ap (option_map (λ bytes. (h * 16 + l) ∷ bytes)) same
pair_read i c d (Some h) (Some l) (Err e) k same = ap (option_map (λ bytes. (h * 16 + l) ∷ bytes)) same

lone_read : (v : Option ℕ) → None ≡ digit_read None v (bytes_after [])
unfolding bytes_after
lone_read None = refl
lone_read (Some v) = refl

-- read one at a time, digits name what they name in pairs
pairs_read : (i : ℕ) (digits : List ℕ) → result_ok (decode_pairs i digits) ≡ bytes_after digits None
unfolding decode_pairs bytes_after
pairs_read i [] = refl
pairs_read i (digit ∷ []) = lone_read (hex_digit_value digit)
pairs_read i (high ∷ low ∷ rest) = pair_read i high low (hex_digit_value high) (hex_digit_value low) (decode_pairs (i + 2) rest) (bytes_after rest) (pairs_read (i + 2) rest)

odd_is_none : (digits : List ℕ) (r : Result (List ℕ) FromHexError) → decode_pairs 0 digits ≡ r → length digits % 2 ≡ 1 → None ≡ result_ok r
odd_is_none digits (Ok bytes) e odd = let long = (decode_pairs-ok 0 digits bytes e).1 in absurd (omega arith)
odd_is_none digits (Err e) _ odd = refl

pub digits_read : (digits : List ℕ) → bytes_of_digits digits ≡ bytes_after digits None
digits_read digits =
    elim (cases_eq (length digits % 2) 1) [
      | inl odd ↦ ap result_ok (decode_of-odd digits odd) ∙ odd_is_none digits (decode_pairs 0 digits) refl odd ∙ pairs_read 0 digits
      | inr even ↦ ap result_ok (decode_of-even digits (omega arith)) ∙ pairs_read 0 digits
    ]

-- what a text names, where some bytes and perhaps a digit came from its front and this is the rest
abbrev pub named : List ℕ → Option ℕ → List ℕ → Option (List ℕ)
named bytes high rest = option_map (λ more. bytes ++ more) (bytes_after (filter (λ byte. not (is_white byte)) rest) high)

nothing_before : (read : Option (List ℕ)) → read ≡ option_map (λ more. [] ++ more) read
nothing_before None = refl
nothing_before (Some bytes) = refl

pub named-start : (text : List ℕ) → hexadecimal text ≡ named [] None text
named-start text = digits_read (filter (λ byte. not (is_white byte)) text) ∙ nothing_before (bytes_after (filter (λ byte. not (is_white byte)) text) None)

white_skipped : (white : Bool) (byte : ℕ) (dark : List ℕ) → white ≡ true → cond (not white) (byte ∷ dark) dark ≡ dark
white_skipped true byte dark e = refl
white_skipped false byte dark e = cc e

dark_kept : (white : Bool) (byte : ℕ) (dark : List ℕ) → white ≡ false → cond (not white) (byte ∷ dark) dark ≡ byte ∷ dark
dark_kept false byte dark e = refl
dark_kept true byte dark e = cc e

-- the rest from an index on begins with the byte there
pub rest_here : (text : List ℕ) (i : ℕ) → i < length text → drop i text ≡ get_or text i 0 ∷ drop (i + 1) text
rest_here text i inside = let next : suc i ≡ i + 1 = omega arith in drop-cons text i 0 inside ∙ ap (λ n. get_or text i 0 ∷ drop n text) next

pub named-white : (bytes : List ℕ) (high : Option ℕ) (byte : ℕ) (rest : List ℕ) → is_white byte ≡ true → named bytes high (byte ∷ rest) ≡ named bytes high rest
named-white bytes high byte rest white = ap (λ dark. option_map (λ more. bytes ++ more) (bytes_after dark high)) (white_skipped (is_white byte) byte (filter (λ byte. not (is_white byte)) rest) white)

pub named-dark : (bytes : List ℕ) (high : Option ℕ) (byte : ℕ) (rest : List ℕ) → is_white byte ≡ false
    → named bytes high (byte ∷ rest) ≡ option_map (λ more. bytes ++ more) (digit_read high (hex_digit_value byte) (bytes_after (filter (λ byte. not (is_white byte)) rest)))
unfolding bytes_after
named-dark bytes high byte rest dark = ap (λ dark. option_map (λ more. bytes ++ more) (bytes_after dark high)) (dark_kept (is_white byte) byte (filter (λ byte. not (is_white byte)) rest) dark)

pub named-bad : (bytes : List ℕ) (high : Option ℕ) (byte : ℕ) (rest : List ℕ) → is_white byte ≡ false → hex_digit_value byte ≡ None → named bytes high (byte ∷ rest) ≡ None
named-bad bytes high byte rest dark bad = named-dark bytes high byte rest dark ∙ ap (λ v. option_map (λ more. bytes ++ more) (digit_read high v (bytes_after (filter (λ byte. not (is_white byte)) rest)))) bad

pub named-first : (bytes : List ℕ) (byte v : ℕ) (rest : List ℕ) → is_white byte ≡ false → hex_digit_value byte ≡ Some v → named bytes None (byte ∷ rest) ≡ named bytes (Some v) rest
named-first bytes byte v rest dark value = named-dark bytes None byte rest dark ∙ ap (λ v. option_map (λ more. bytes ++ more) (digit_read None v (bytes_after (filter (λ byte. not (is_white byte)) rest)))) value

byte_moved : (bytes : List ℕ) (byte : ℕ) (read : Option (List ℕ)) → option_map (λ more. bytes ++ more) (option_map (λ more. byte ∷ more) read) ≡ option_map (λ more. (bytes ++ (byte ∷ [])) ++ more) read
byte_moved bytes byte None = refl
byte_moved bytes byte (Some more) = ap Some (sym (append_assoc bytes (byte ∷ []) more))

pub named-second : (bytes : List ℕ) (h byte v : ℕ) (rest : List ℕ) → is_white byte ≡ false → hex_digit_value byte ≡ Some v → named bytes (Some h) (byte ∷ rest) ≡ named (bytes ++ ((h * 16 + v) ∷ [])) None rest
named-second bytes h byte v rest dark value = named-dark bytes (Some h) byte rest dark
    ∙ ap (λ v. option_map (λ more. bytes ++ more) (digit_read (Some h) v (bytes_after (filter (λ byte. not (is_white byte)) rest)))) value
    ∙ byte_moved bytes (h * 16 + v) (bytes_after (filter (λ byte. not (is_white byte)) rest) None)

pub named-end : (bytes : List ℕ) → named bytes None [] ≡ Some bytes
unfolding bytes_after
named-end bytes = ap Some (append-nil bytes)

pub named-half : (bytes : List ℕ) (h : ℕ) → named bytes (Some h) [] ≡ None
unfolding bytes_after
named-half bytes h = refl

-- one step over the text: white space, a first digit, a second one, or a byte that is none of them
pub step_bad : (whole : Option (List ℕ)) (text bytes : List ℕ) (high : Option ℕ) (i : ℕ) → whole ≡ named bytes high (drop i text) → i < length text
    → is_white (get_or text i 0) ≡ false → hex_digit_value (get_or text i 0) ≡ None → whole ≡ None
step_bad whole text bytes high i so_far inside dark bad = so_far ∙ ap (named bytes high) (rest_here text i inside) ∙ named-bad bytes high (get_or text i 0) (drop (i + 1) text) dark bad

pub step_first : (whole : Option (List ℕ)) (text bytes bytes' : List ℕ) (high high' : Option ℕ) (i v : ℕ) → whole ≡ named bytes high (drop i text) → i < length text
    → is_white (get_or text i 0) ≡ false → hex_digit_value (get_or text i 0) ≡ Some v → high ≡ None → bytes' ≡ bytes → high' ≡ Some v → whole ≡ named bytes' high' (drop (i + 1) text)
step_first whole text bytes bytes' high high' i v so_far inside dark value none same waits =
    so_far ∙ ap (named bytes high) (rest_here text i inside)
    ∙ ap (λ h. named bytes h (get_or text i 0 ∷ drop (i + 1) text)) none
    ∙ named-first bytes (get_or text i 0) v (drop (i + 1) text) dark value
    ∙ ap (λ h. named bytes h (drop (i + 1) text)) (sym waits)
    ∙ ap (λ b. named b high' (drop (i + 1) text)) (sym same)

pub step_second : (whole : Option (List ℕ)) (text bytes bytes' : List ℕ) (high high' : Option ℕ) (i h v : ℕ) → whole ≡ named bytes high (drop i text) → i < length text
    → is_white (get_or text i 0) ≡ false → hex_digit_value (get_or text i 0) ≡ Some v → high ≡ Some h → bytes' ≡ bytes ++ ((h * 16 + v) ∷ []) → high' ≡ None → whole ≡ named bytes' high' (drop (i + 1) text)
step_second whole text bytes bytes' high high' i h v so_far inside dark value waits more none =
    so_far ∙ ap (named bytes high) (rest_here text i inside)
    ∙ ap (λ h. named bytes h (get_or text i 0 ∷ drop (i + 1) text)) waits
    ∙ named-second bytes h (get_or text i 0) v (drop (i + 1) text) dark value
    ∙ ap (λ w. named (bytes ++ ((h * 16 + v) ∷ [])) w (drop (i + 1) text)) (sym none)
    ∙ ap (λ b. named b high' (drop (i + 1) text)) (sym more)

-- at the text's end
pub step_end : (whole : Option (List ℕ)) (text bytes : List ℕ) (high : Option ℕ) (i : ℕ) → whole ≡ named bytes high (drop i text) → length text ≤ i → high ≡ None → whole ≡ Some bytes
step_end whole text bytes high i so_far over none = so_far ∙ ap (named bytes high) (drop_all i text over) ∙ ap (λ h. named bytes h []) none ∙ named-end bytes

pub step_half : (whole : Option (List ℕ)) (text bytes : List ℕ) (high : Option ℕ) (i h : ℕ) → whole ≡ named bytes high (drop i text) → length text ≤ i → high ≡ Some h → whole ≡ None
step_half whole text bytes high i h so_far over waits = so_far ∙ ap (named bytes high) (drop_all i text over) ∙ ap (λ h. named bytes h []) waits ∙ named-half bytes h
