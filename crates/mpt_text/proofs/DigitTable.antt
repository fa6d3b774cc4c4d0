-- The value of each digit, below 16, and 16 for each byte that is none: what the code looks up.
use Rattle.std.proofs.Common.{◌≡◌, refl, ℕ, List, length, get_or, map, sym, ap, ◌∙◌, ◌<◌, ◌≤◌, nat_lt, Bool, arith, true, false}
use Rattle.std.specs.Prelude.{Option, Some, None, cond}
use Rattle.std.specs.List.{range_with_len}
use Rattle.std.proofs.lemmas.Bool.{lt-ltb, ltb-true}
use Rattle.std.proofs.lemmas.List.{get_or-map}
use Rattle.std.proofs.lemmas.List.FromFn.{get_or-map-range_with_len}
use Rattle.hex.specs.Hex.{hex_digit_value}

abbrev value_or_none : Option ℕ → ℕ
value_or_none None = 16
value_or_none (Some v) = v

abbrev pub digit_table : List ℕ
digit_table = map (λ byte. value_or_none (hex_digit_value byte)) (range_with_len 0 256)

-- what an entry says: a value, or that its byte is no digit
abbrev entry_value : ℕ → Option ℕ
entry_value v = cond (nat_lt v 16) (Some v) None

digit_in_table : (byte : ℕ) → byte < 256 → entry_value (get_or digit_table byte 0) ≡ hex_digit_value byte
digit_in_table byte inside =
    let here : byte < length digit_table = inside in
    let same : map entry_value digit_table ≡ map hex_digit_value (range_with_len 0 256) = refl in
    sym (get_or-map entry_value digit_table byte 0 None here) ∙ ap (λ values. get_or values byte None) same ∙ get_or-map-range_with_len hex_digit_value 0 256 byte byte None inside (omega arith)

low_value : (v : ℕ) → v < 16 → entry_value v ≡ Some v
low_value v low = ap (λ b. cond b (Some v) None) (lt-ltb v 16 low)

high_value : (v : ℕ) → 16 ≤ v → entry_value v ≡ None
high_value v high = by_test (nat_lt v 16) refl where
  by_test : (b : Bool) → nat_lt v 16 ≡ b → cond b (Some v) None ≡ None
  by_test false _ = refl
  by_test true below = absurd (omega (arith, high, ltb-true v 16 below))

pub digit_there : (byte : ℕ) → byte < 256 → get_or digit_table byte 0 < 16 → Some (get_or digit_table byte 0) ≡ hex_digit_value byte
digit_there byte inside low = sym (low_value (get_or digit_table byte 0) low) ∙ digit_in_table byte inside

pub no_digit_there : (byte : ℕ) → byte < 256 → 16 ≤ get_or digit_table byte 0 → None ≡ hex_digit_value byte
no_digit_there byte inside high = sym (high_value (get_or digit_table byte 0) high) ∙ digit_in_table byte inside
