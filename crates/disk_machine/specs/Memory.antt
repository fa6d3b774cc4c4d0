-- What the code remembers of a trace, and how it stands for what the trace said so far.
use Rattle.std.specs.Prelude.{◌≡◌, ℕ, Option, Some, None}
use Rattle.std.specs.Option.{option_map}
use Rattle.std.specs.Ordering.{nat_cmp}
use Rattle.std.specs.BTreeMap as tree
use Rattle.std.specs.BTreeMap.{BTreeMap}
use Rattle.mpt_trace.specs.declared.entry.Entry.{Entry}
use Rattle.mpt_trace.specs.declared.entry.Entry.TheVariants as entry
use Rattle.mpt_trace.specs.declared.input.Input.{Input}
use Rattle.mpt_wire.specs.Machine.Calls.{call_of}
use Rattle.mpt_wire.specs.Machine.SoFar.{SoFar}
use Rattle.disk_machine.specs.declared.memory.TraceMemory.{TraceMemory}

-- the input of an entry, where it is one
abbrev pub input_of_entry : Entry → Option Input
input_of_entry (entry.Given input) = Some input
input_of_entry _ = None

-- it has those numbers
abbrev pub HasNumbers : BTreeMap ℕ ℕ → (ℕ → Option ℕ) → Type 0
HasNumbers table numbers = (k : ℕ) → tree.get nat_cmp table k ≡ numbers k

-- the code remembers of what the trace said as much as decides the machine's steps that a summary shows
pub record Remembers (s : TraceMemory) (g : SoFar) : Type 0 where
  pub asked : option_map call_of s.asked ≡ g.host_call
  pub numbers : HasNumbers s.numbers g.number_of
  pub plugs : HasNumbers s.plugs g.plug_of
