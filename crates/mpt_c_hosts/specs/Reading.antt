-- What C hands over, where it stands for nothing.
use Rattle.std.specs.Prelude.{◌≡◌, ◌≢◌, Option, None}
use Rattle.mpt_c_messages.specs.declared.call_code.CallCode.{CallCode}
use Rattle.mpt_c_messages.specs.declared.call_code.CallCode.TheVariants as code

-- the codes with which it isn't read: NoSuch, where it stands for nothing, and want of memory, where it does
abbrev pub IsUnread : {X : Type 0} → Option X → CallCode → Type 0
IsUnread found code.NoSuch = found ≡ None
IsUnread found code.NoMemory = found ≢ None
IsUnread found _ = ⊥
