-- A call on a handle that holds something.
use Rattle.std.proofs.Common.{◌≡◌, ℕ, Option, Some, sym, subst}
use Rattle.mpt_c_messages.specs.declared.call_code.CallCode.{CallCode}
use Rattle.mpt_c_messages.specs.CallCode.{code_number}
use Rattle.mpt_c.specs.OnHandles.{OnHandle}

pub on_held : {P : Type 0} (old new : Option P) (p p' : P) (answer : ℕ) (code : CallCode) (says : P → P → CallCode → Type 0)
    → old ≡ Some p → new ≡ Some p' → answer ≡ code_number code → says p p' code → OnHandle old new answer says
on_held old new p p' answer code says is is' ends holds =
    subst (λ o. OnHandle o new answer says) (sym is) (subst (λ o. OnHandle (Some p) o answer says) (sym is') (code, holds, ends))
