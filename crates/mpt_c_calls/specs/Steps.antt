-- What a work step answers.
use Rattle.std.specs.Prelude.{◌≡◌, ◌++◌, Bool, true, false}
use Rattle.mpt_rules.specs.Ioc.Parts.{Ioc}
use Rattle.mpt_rules.specs.Outcome.{Called}
use Rattle.mpt_c_messages.specs.declared.call_code.CallCode.{CallCode}
use Rattle.mpt_c_messages.specs.declared.call_code.CallCode.TheVariants as code
use Rattle.ioc_core.specs.Seen.{IocSeen}
use Rattle.mpt_c_calls.specs.Down.{IsSameIoc}

-- the controller is as its rules say, and tells what they say
abbrev pub Worked : IocSeen → IocSeen → Called Ioc Bool → Type 0
Worked old new step = (new.part ≡ step.part) × (new.told ≡ old.told ++ step.told)

-- Ok: the front was processed. Nothing: there was none. NoMemory: nothing changed
abbrev pub Steps : IocSeen → IocSeen → Called Ioc Bool → CallCode → Type 0
Steps old new step code.Ok = (step.answer ≡ true) × Worked old new step
Steps old new step code.Nothing = (step.answer ≡ false) × Worked old new step
Steps old new step code.NoMemory = IsSameIoc old new
Steps old new step _ = ⊥
