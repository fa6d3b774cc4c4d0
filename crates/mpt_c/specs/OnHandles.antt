-- What calls on handles answer and leave.
use Rattle.std.specs.Prelude.{◌≡◌, ℕ, Option, Some, None}
use Rattle.mpt_c_messages.specs.declared.call_code.CallCode.{CallCode}
use Rattle.mpt_c_messages.specs.declared.call_code.CallCode.TheVariants as code
use Rattle.mpt_c_messages.specs.CallCode.{code_number}

-- Empty where the handle is, which stays so; else this holds of what it holds, before and after, and the code
abbrev pub OnHandle : {P : Type 0} → Option P → Option P → ℕ → (P → P → CallCode → Type 0) → Type 0
OnHandle None None answer says = answer ≡ code_number code.Empty
OnHandle (Some old) (Some new) answer says = (ended : CallCode) × says old new ended × (answer ≡ code_number ended)
OnHandle _ _ answer says = ⊥

-- the same of two handles; Empty where one of them is, and then both are as they were
abbrev pub OnBoth : {P Q : Type 0} → Option P → Option P → Option Q → Option Q → ℕ → (P → P → Q → Q → CallCode → Type 0) → Type 0
OnBoth (Some p) (Some p') (Some q) (Some q') answer says = (ended : CallCode) × says p p' q q' ended × (answer ≡ code_number ended)
OnBoth p p' q q' answer says = (answer ≡ code_number code.Empty) × (p' ≡ p) × (q' ≡ q)

module _ {P : Type 0} where
  -- Ok: the handle holds a value of which the first holds. Else it is as it was, and the second holds of the code
  abbrev pub Holds : Option P → Option P → (P → Type 0) → (CallCode → Type 0) → CallCode → Type 0
  Holds old new says refuses code.Ok = (made : P) × (new ≡ Some made) × says made
  Holds old new says refuses ended = refuses ended × (new ≡ old)
