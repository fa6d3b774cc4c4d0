-- An input, as it is asked of the host, and the entry of its refusal.
use Rattle.std.specs.Prelude.{◌≡◌, ℕ, ◌++◌, [], Option, None, Result, Ok, Err}
use Rattle.host_core.specs.Driver.{Driver, IsSame}
use Rattle.mpt_trace.specs.Command.{command_named}
use Rattle.mpt_trace.specs.declared.entry.Entry.{Entry}
use Rattle.mpt_trace.specs.declared.entry.Entry.TheVariants as entry
use Rattle.mpt_trace.specs.declared.input.Input.{Input}
use Rattle.mpt_trace.specs.declared.input.Input.TheVariants as input
use Rattle.mpt_trace.specs.declared.refusal.Refusal.{Refusal}
use Rattle.mpt_trace.specs.declared.refusal.RefusedCall.TheVariants as call
use Rattle.mpt_rules.specs.Fabric.Calls.{PlugRefusal, fabric_plugs, fabric_unplugs}
use Rattle.mpt_rules.specs.Fabric.Parts.{Fabric}
use Rattle.mpt_rules.specs.Host.Parts.{Host}
use Rattle.mpt_rules.specs.Host.Takes.{diag_resets, host_aborts, host_resets_target, host_submits, starts, unit_resets}
use Rattle.mpt_rules.specs.Outcome.{Called}
use Rattle.mpt_rules.specs.World.Inputs.{cause_of}

-- the input is one to the fabric
abbrev pub IsToFabric : Input → Type 0
IsToFabric (input.Plug address expander phy) = Unit {0}
IsToFabric (input.Unplug address) = Unit {0}
IsToFabric _ = ⊥

-- the input is one to the host
abbrev pub IsToHost : Input → Type 0
IsToHost (input.Plug address expander phy) = ⊥
IsToHost (input.Unplug address) = ⊥
IsToHost _ = Unit {0}

-- a refused call that answers with an identifier or with a cause
abbrev pub without_smid : Called Host (Result ℕ Refusal) → Called Host (Option Refusal)
without_smid called = record { part = called.part; told = called.told; answer = cause_of called.answer }

-- what the host does with an input, and the cause where it refuses
abbrev pub host_asked : Host → Input → Called Host (Option Refusal)
host_asked host input.Start = starts host
host_asked host (input.Submit n address form) = without_smid (host_submits host n address (command_named form))
host_asked host (input.Abort n) = without_smid (host_aborts host n)
host_asked host (input.TargetReset address) = without_smid (host_resets_target host address)
host_asked host input.Reset = diag_resets host
host_asked host input.UnitReset = unit_resets host
host_asked host (input.Plug address expander phy) = record { part = host; told = []; answer = None }
host_asked host (input.Unplug address) = record { part = host; told = []; answer = None }

-- what the fabric does with an input, and the cause where it refuses
abbrev pub fabric_asked : Fabric → Input → Called Fabric (Option PlugRefusal)
fabric_asked fabric (input.Plug address expander phy) = fabric_plugs fabric address expander phy
fabric_asked fabric (input.Unplug address) = fabric_unplugs fabric address
fabric_asked fabric _ = record { part = fabric; told = []; answer = None }

-- the host was asked: it answered this cause, or none, and told this; or nothing changed
abbrev pub HasAsked : {E : Type 0} → Driver → Called Host (Option Refusal) → Result (Option Refusal) E → Driver → Type 0
HasAsked old called (Ok cause) new = (cause ≡ called.answer) × (new.host ≡ called.part) × (new.told ≡ old.told ++ called.told)
HasAsked old called (Err error) new = IsSame old new

-- the entry of an input that is refused
abbrev pub refusal_entry : Input → Refusal → Entry
refusal_entry input.Start cause = entry.Refuse call.Start cause
refusal_entry (input.Submit n address form) cause = entry.RefuseSubmit n cause
refusal_entry (input.Abort n) cause = entry.Refuse (call.Abort n) cause
refusal_entry (input.TargetReset address) cause = entry.Refuse (call.TargetReset address) cause
refusal_entry input.Reset cause = entry.Refuse call.Reset cause
refusal_entry input.UnitReset cause = entry.Refuse call.UnitReset cause
refusal_entry (input.Plug address expander phy) cause = entry.Refuse (call.Plug address) cause
refusal_entry (input.Unplug address) cause = entry.Refuse (call.Unplug address) cause
