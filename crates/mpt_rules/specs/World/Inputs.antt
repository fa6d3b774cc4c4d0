-- What an input does to the world.
use Rattle.std.specs.Prelude.{ℕ, List, [], ◌∷◌, Option, Some, None, Result, Ok, Err}
use Rattle.mpt_trace.specs.Command.{command_named}
use Rattle.mpt_trace.specs.declared.entry.Entry.{Entry}
use Rattle.mpt_trace.specs.declared.entry.Entry.TheVariants as entry
use Rattle.mpt_trace.specs.declared.input.Input.{Input}
use Rattle.mpt_trace.specs.declared.input.Input.TheVariants as input
use Rattle.mpt_trace.specs.declared.refusal.Refusal.{Refusal}
use Rattle.mpt_trace.specs.declared.refusal.Refusal.TheVariants as refusal
use Rattle.mpt_trace.specs.declared.refusal.RefusedCall.{RefusedCall}
use Rattle.mpt_trace.specs.declared.refusal.RefusedCall.TheVariants as call
use Rattle.mpt_rules.specs.Host.Parts.{Host}
use Rattle.mpt_rules.specs.Fabric.Parts.{Fabric}
use Rattle.mpt_rules.specs.Host.Takes.{starts, host_submits, host_aborts, host_resets_target, diag_resets, unit_resets}
use Rattle.mpt_rules.specs.Fabric.Calls.{PlugRefusal, fabric_plugs, fabric_unplugs}
use Rattle.mpt_rules.specs.Outcome.{Happening, Called}

-- ---- the host

-- the cause, where a call was refused
abbrev pub cause_of : {A : Type 0} → Result A Refusal → Option Refusal
cause_of (Ok answer) = None
cause_of (Err cause) = Some cause

-- the refusal of a call, or what it told
abbrev pub refused_or : (Refusal → Entry) → Option Refusal → List Entry → List Entry
refused_or refused (Some cause) told = refused cause ∷ []
refused_or refused None told = told

-- a party after a call for an input
abbrev pub answered : {P A : Type 0} → Input → (Refusal → Entry) → Option Refusal → Called P A → Happening P
answered input refused cause called = record { part = called.part; entries = entry.Given input ∷ refused_or refused cause called.told }

-- a call that answers with a cause or with none
abbrev pub by_option : {P : Type 0} → Input → RefusedCall → Called P (Option Refusal) → Happening P
by_option input call called = answered input (entry.Refuse call) called.answer called

-- a call that answers with an identifier or with a cause
abbrev pub by_result : {P : Type 0} → Input → (Refusal → Entry) → Called P (Result ℕ Refusal) → Happening P
by_result input refused called = answered input refused (cause_of called.answer) called

-- an input is told to the host; those that aren't the host's do nothing
abbrev pub host_told : Host → Input → Happening Host
host_told host input.Start = by_option input.Start call.Start (starts host)
host_told host (input.Submit n address form) = by_result (input.Submit n address form) (entry.RefuseSubmit n) (host_submits host n address (command_named form))
host_told host (input.Abort n) = by_result (input.Abort n) (entry.Refuse (call.Abort n)) (host_aborts host n)
host_told host (input.TargetReset address) = by_result (input.TargetReset address) (entry.Refuse (call.TargetReset address)) (host_resets_target host address)
host_told host input.Reset = by_option input.Reset call.Reset (diag_resets host)
host_told host input.UnitReset = by_option input.UnitReset call.UnitReset (unit_resets host)
host_told host (input.Plug address expander phy) = record { part = host; entries = [] }
host_told host (input.Unplug address) = record { part = host; entries = [] }

-- ---- the fabric

-- the cause that is told; none where the input names no disk or phy that exists
abbrev pub told_cause : PlugRefusal → Option Refusal
told_cause PlugRefusal.NoSuchDisk = None
told_cause PlugRefusal.NoSuchPhy = None
told_cause PlugRefusal.Occupied = Some refusal.Occupied
told_cause PlugRefusal.AlreadyPlugged = Some refusal.AlreadyPlugged
told_cause PlugRefusal.PlugsSpent = Some refusal.PlugsSpent
told_cause PlugRefusal.NotPlugged = Some refusal.NotPlugged

-- a refused plug or unplug is entered where its cause is told
abbrev pub refused_plug_entered : Fabric → Input → RefusedCall → Option Refusal → Happening Fabric
refused_plug_entered fabric input call None = record { part = fabric; entries = [] }
refused_plug_entered fabric input call (Some cause) = record { part = fabric; entries = entry.Given input ∷ entry.Refuse call cause ∷ [] }

-- the fabric after a plug or an unplug, by what it answered
abbrev pub by_plug : Input → RefusedCall → Option PlugRefusal → Fabric → Happening Fabric
by_plug input call None fabric = record { part = fabric; entries = entry.Given input ∷ [] }
by_plug input call (Some refused) fabric = refused_plug_entered fabric input call (told_cause refused)

-- the fabric after a plug or an unplug
abbrev pub plug_called : Input → RefusedCall → Called Fabric (Option PlugRefusal) → Happening Fabric
plug_called input call called = by_plug input call called.answer called.part

-- an input is told to the fabric; those that aren't the fabric's do nothing
abbrev pub fabric_told : Fabric → Input → Happening Fabric
fabric_told fabric (input.Plug address expander phy) = plug_called (input.Plug address expander phy) (call.Plug address) (fabric_plugs fabric address expander phy)
fabric_told fabric (input.Unplug address) = plug_called (input.Unplug address) (call.Unplug address) (fabric_unplugs fabric address)
fabric_told fabric _ = record { part = fabric; entries = [] }
