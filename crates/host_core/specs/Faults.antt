-- The faults of the code and the refusals of the rules.
use Rattle.std.specs.Prelude.{ℕ, Option, Some, None, Result, Ok, Err}
use Rattle.mpt_trace.specs.declared.refusal.Refusal.{Refusal}
use Rattle.mpt_trace.specs.declared.refusal.Refusal.TheVariants as refusal
use Rattle.host_core.specs.declared.faults.HostFault.{HostFault}
use Rattle.host_core.specs.declared.faults.HostFault.TheVariants as fault

-- the refusal that a fault stands for; want of memory is none
abbrev pub refusal_of : HostFault → Option Refusal
refusal_of fault.NumberUsed = Some refusal.NumberUsed
refusal_of fault.NotOperational = Some refusal.NotOperational
refusal_of fault.NoDevice = Some refusal.NoDevice
refusal_of fault.BadLength = Some refusal.BadLength
refusal_of fault.NoIdentifier = Some refusal.NoIdentifier
refusal_of fault.NotOpen = Some refusal.NotOpen
refusal_of fault.AbortOpen = Some refusal.AbortOpen
refusal_of fault.AlreadyStarted = Some refusal.AlreadyStarted
refusal_of fault.NotStarted = Some refusal.NotStarted
refusal_of fault.AlreadyResetting = Some refusal.AlreadyResetting
refusal_of fault.OutOfMemory = None

module _ {A : Type 0} where
  -- the refusal that a call answered, if any
  abbrev pub refusal_in : Result A HostFault → Option Refusal
  refusal_in (Ok done) = None
  refusal_in (Err cause) = refusal_of cause

-- the refusal that the rules answer, if any
abbrev pub refusal_by : Result ℕ Refusal → Option Refusal
refusal_by (Ok smid) = None
refusal_by (Err cause) = Some cause

-- the refusal that a call decided on, if any
abbrev pub refusal_decided : Option HostFault → Option Refusal
refusal_decided None = None
refusal_decided (Some cause) = refusal_of cause
