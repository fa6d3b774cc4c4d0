-- What a call answers that hands the controller an item of the lane down.
use Rattle.std.specs.Prelude.{◌≡◌, ◌++◌, Bool, true, false}
use Rattle.mpt_trace.specs.declared.item.Down.{Down}
use Rattle.mpt_rules.specs.Ioc.Takes.{takes_down}
use Rattle.mpt_c_messages.specs.declared.call_code.CallCode.{CallCode}
use Rattle.mpt_c_messages.specs.declared.call_code.CallCode.TheVariants as code
use Rattle.ioc_core.specs.Seen.{IocSeen}

-- the controller is as it was, and has as much to tell
abbrev pub IsSameIoc : IocSeen → IocSeen → Type 0
IsSameIoc old new = (new.part ≡ old.part) × (new.told ≡ old.told)

-- Ok: the controller took it as its rules say. NoMemory: nothing changed
abbrev pub TakesDown : IocSeen → IocSeen → Down → CallCode → Type 0
TakesDown old new item code.Ok =
    (new.part ≡ (takes_down old.part item).part) × (new.told ≡ old.told ++ (takes_down old.part item).entries)
TakesDown old new item code.NoMemory = IsSameIoc old new
TakesDown old new item _ = ⊥

-- the same of a post whose data isn't too long; else NoSuch, and nothing changed
abbrev pub TakesPost : Bool → IocSeen → IocSeen → Down → CallCode → Type 0
TakesPost true old new item answer = TakesDown old new item answer
TakesPost false old new item answer = (answer ≡ code.NoSuch) × IsSameIoc old new
