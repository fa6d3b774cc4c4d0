-- What calls of the fabric answer, by its rules.
use Rattle.std.specs.Prelude.{◌≡◌, ◌≢◌, ℕ, Option, Some, None}
use Rattle.mpt_rules.specs.Fabric.Parts.{Fabric}
use Rattle.mpt_rules.specs.Outcome.{Called}
use Rattle.mpt_c_messages.specs.declared.call_code.CallCode.{CallCode}
use Rattle.mpt_c_messages.specs.declared.call_code.CallCode.TheVariants as code

-- Ok: it is done, by the rule. Refused: the rule refuses it. NoMemory, and then, nothing changed
abbrev pub Plugs : {R : Type 0} → Fabric → Fabric → Called Fabric (Option R) → CallCode → Type 0
Plugs old new call code.Ok = (call.answer ≡ None) × (new ≡ call.part)
Plugs old new call code.Refused = (call.answer ≢ None) × (new ≡ old)
Plugs old new call code.NoMemory = new ≡ old
Plugs old new call _ = ⊥

-- Ok: there is an oldest task, with this tag. Nothing: there is none
abbrev pub IsOldest : Option ℕ → ℕ → ℕ → CallCode → Type 0
IsOldest found tag tag' code.Ok = found ≡ Some tag'
IsOldest found tag tag' code.Nothing = (found ≡ None) × (tag' ≡ tag)
IsOldest found tag tag' _ = ⊥

-- Ok: the task ran at the disk of this address. Nothing: there is no such task. NoMemory, and then,
-- nothing changed
abbrev pub Runs : Fabric → Fabric → Called Fabric (Option ℕ) → ℕ → ℕ → CallCode → Type 0
Runs old new call address address' code.Ok = (call.answer ≡ Some address') × (new ≡ call.part)
Runs old new call address address' code.Nothing = (call.answer ≡ None) × (new ≡ old) × (address' ≡ address)
Runs old new call address address' code.NoMemory = (new ≡ old) × (address' ≡ address)
Runs old new call address address' _ = ⊥

-- Ok: the first notice is told. Nothing: there is none. NoMemory, and then, nothing changed
abbrev pub Announces : Fabric → Fabric → Option Fabric → CallCode → Type 0
Announces old new told code.Ok = told ≡ Some new
Announces old new told code.Nothing = (told ≡ None) × (new ≡ old)
Announces old new told code.NoMemory = new ≡ old
Announces old new told _ = ⊥
