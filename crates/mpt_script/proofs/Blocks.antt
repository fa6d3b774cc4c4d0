-- The inputs of the last submitter.
use Rattle.std.proofs.Common.{◌≡◌, ℕ, ◌-◌, ◌<◌, List, [], ◌∷◌, ◌++◌, length, get_or, set, zero, suc, Result, Ok, Err, OnOk, refl, ap, arith}
use Rattle.mpt_trace.specs.declared.input.Input.{Input}
use Rattle.mpt_script.specs.Planning.{onto_last}

-- a write at the last place
last_written : (xs : List (List Input)) (k : ℕ) (last : List Input) (given : Input) → length xs ≡ suc k → last ≡ get_or xs k last → set xs k (last ++ given ∷ []) ≡ onto_last xs given
last_written [] k last given all is = absurd (omega arith)
last_written (inputs ∷ []) zero last given all is = rw is refl
last_written (inputs ∷ []) (suc k) last given all is = absurd (omega arith)
last_written (inputs ∷ next ∷ others) zero last given all is = absurd (omega arith)
last_written (inputs ∷ next ∷ others) (suc k) last given all is = ap (λ rest. inputs ∷ rest) (last_written (next ∷ others) k last given (omega arith) is)

on_ok : {E : Type 0} (r : Result Unit E) (xs : List (List Input)) (k : ℕ) (last new : List Input) (given : Input) → length xs ≡ suc k → last ≡ get_or xs k last → OnOk r (new ≡ last ++ given ∷ []) → OnOk r (set xs k new ≡ onto_last xs given)
on_ok (Ok done) xs k last new given all is e = rw e (last_written xs k last given all is)
on_ok (Err error) xs k last new given all is e = e

-- an input was pushed onto the last list
pub last_pushed : {E : Type 0} (r : Result Unit E) (xs : List (List Input)) (n : ℕ) (last new : List Input) (given : Input) → length xs ≡ n → 0 < n → last ≡ get_or xs (n - 1) last → OnOk r (new ≡ last ++ given ∷ []) → OnOk r (set xs (n - 1) new ≡ onto_last xs given)
last_pushed r xs n last new given all some is e = on_ok r xs (n - 1) last new given (omega arith) is e
