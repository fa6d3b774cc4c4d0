-- An input names no more bytes than it has.
use Rattle.std.proofs.Common.{◌≡◌, ℕ, ◌*◌, ◌≤◌, Bool, true, false, not, List, length, refl, arith}
use Rattle.std.specs.Prelude.{Some, Result, Ok, Err, filter}
use Rattle.std.specs.Result.{result_ok}
use Rattle.std.proofs.lemmas.List.Filters.{length-filter_both}
use Rattle.hex.specs.declared.error.FromHexError.{FromHexError}
use Rattle.hex.specs.Hex.{decode_of}
use Rattle.hex.proofs.HexLemmas.{decode_of-ok}
use Rattle.mpt_text.specs.Hexadecimal.{hexadecimal, is_white}

twice_not : (b : Bool) → b ≡ not (not b)
twice_not true = refl
twice_not false = refl

named_by : (digits bytes : List ℕ) (r : Result (List ℕ) FromHexError) → decode_of digits ≡ r → result_ok r ≡ Some bytes → length digits ≡ 2 * length bytes
named_by digits bytes (Ok read) e named = let same : read ≡ bytes = cc in let long = (decode_of-ok digits bytes (cc)).2 in long
named_by digits bytes (Err fault) e named = cc

pub named_few : (text bytes : List ℕ) → hexadecimal text ≡ Some bytes → length bytes ≤ length text
named_few text bytes named =
    let digits : List ℕ = filter (λ byte. not (is_white byte)) text in
    let long = named_by digits bytes (decode_of digits) refl named in
    let both = length-filter_both (λ byte. not (is_white byte)) is_white (λ byte. twice_not (is_white byte)) text in
    omega (arith, long, both)
