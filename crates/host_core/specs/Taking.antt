-- What a fault of a take says.
use Rattle.std.specs.Prelude.{Option, Some, None, Result, Ok, Err}
use Rattle.mpt_trace.specs.declared.item.Up.{Up}
use Rattle.mpt_rules.specs.declared.why.Why.{Why}
use Rattle.host_core.specs.declared.faults.TakeFault.{TakeFault}
use Rattle.host_core.specs.declared.faults.TakeFault.TheVariants as fault

-- the item that it hands back
abbrev pub item_of : TakeFault → Up
item_of (fault.NoRoom item) = item
item_of (fault.Strange item why) = item

-- why the item is strange, if it is; want of memory is no why
abbrev pub why_told : TakeFault → Option Why
why_told (fault.NoRoom item) = None
why_told (fault.Strange item why) = Some why

-- the why that a take answered, if any
abbrev pub why_of : {A : Type 0} → Result A TakeFault → Option Why
why_of (Ok taken) = None
why_of (Err fault) = why_told fault
