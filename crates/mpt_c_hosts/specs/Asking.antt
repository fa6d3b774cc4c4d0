-- What a call answers that asks something of the host.
use Rattle.std.specs.Prelude.{◌≡◌, ℕ, ◌++◌, Option, Some, None, Result, Ok, Err}
use Rattle.mpt_trace.specs.declared.refusal.Refusal.{Refusal}
use Rattle.mpt_trace.specs.declared.refusal.Refusal.TheVariants as refusal
use Rattle.mpt_rules.specs.Host.Parts.{Host}
use Rattle.mpt_rules.specs.Outcome.{Called}
use Rattle.mpt_c_messages.specs.declared.call_code.CallCode.{CallCode}
use Rattle.mpt_c_messages.specs.declared.call_code.CallCode.TheVariants as code
use Rattle.host_core.specs.Driver.{Driver, IsSame}

-- a cause as C has it; the last four are the fabric's
abbrev pub number_of_refusal : Refusal → ℕ
number_of_refusal refusal.NumberUsed = 1
number_of_refusal refusal.NotOperational = 2
number_of_refusal refusal.NoDevice = 3
number_of_refusal refusal.BadLength = 4
number_of_refusal refusal.NoIdentifier = 5
number_of_refusal refusal.NotOpen = 6
number_of_refusal refusal.AbortOpen = 7
number_of_refusal refusal.AlreadyStarted = 8
number_of_refusal refusal.NotStarted = 9
number_of_refusal refusal.AlreadyResetting = 10
number_of_refusal refusal.Occupied = 11
number_of_refusal refusal.AlreadyPlugged = 12
number_of_refusal refusal.PlugsSpent = 13
number_of_refusal refusal.NotPlugged = 14

-- the host is as a call of its rules leaves it, and tells what the call tells
pub record Went {A : Type 0} (old new : Driver) (call : Called Host A) : Type 0 where
  pub host : new.host ≡ call.part
  pub told : new.told ≡ old.told ++ call.told

-- a word of C's stays
abbrev pub Stays : ℕ → ℕ → Type 0
Stays word word' = word' ≡ word

-- the code of a refusal, of which C has the cause; without one memory was wanting
abbrev pub Refuses : Option Refusal → ℕ → ℕ → CallCode → Type 0
Refuses None cause cause' answer = (answer ≡ code.NoMemory) × Stays cause cause'
Refuses (Some why) cause cause' answer = (answer ≡ code.Refused) × (cause' ≡ number_of_refusal why)

-- Ok: what was asked is begun, by the rule. Refused: the rule refuses it, and C has the cause. Else, and then, nothing
-- changed
abbrev pub Begins : Driver → Driver → ℕ → ℕ → Called Host (Option Refusal) → CallCode → Type 0
Begins old new cause cause' call code.Ok = (call.answer ≡ None) × Went old new call × Stays cause cause'
Begins old new cause cause' call code.Refused =
    (why : Refusal) × (call.answer ≡ Some why) × (cause' ≡ number_of_refusal why) × IsSame old new
Begins old new cause cause' call code.NoMemory = Stays cause cause' × IsSame old new
Begins old new cause cause' call _ = ⊥

-- the same of what is asked under an identifier, which C has where it is begun
abbrev pub BeginsAs : Driver → Driver → ℕ → ℕ → ℕ → ℕ → Called Host (Result ℕ Refusal) → CallCode → Type 0
BeginsAs old new smid smid' cause cause' call code.Ok =
    (call.answer ≡ Ok smid') × Went old new call × Stays cause cause'
BeginsAs old new smid smid' cause cause' call code.Refused =
    (why : Refusal) × (call.answer ≡ Err why) × (cause' ≡ number_of_refusal why) × Stays smid smid' × IsSame old new
BeginsAs old new smid smid' cause cause' call code.NoMemory = Stays smid smid' × Stays cause cause' × IsSame old new
BeginsAs old new smid smid' cause cause' call _ = ⊥
