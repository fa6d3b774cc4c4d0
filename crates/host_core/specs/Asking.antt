-- What an input asks of the host.
use Rattle.std.specs.Prelude.{[], Option, None, option_map}
use Rattle.mpt_trace.specs.Command.{command_named}
use Rattle.mpt_trace.specs.declared.entry.Entry.{Entry}
use Rattle.mpt_trace.specs.declared.entry.Entry.TheVariants as entry
use Rattle.mpt_trace.specs.declared.input.Input.{Input}
use Rattle.mpt_trace.specs.declared.input.Input.TheVariants as input
use Rattle.mpt_trace.specs.declared.refusal.Refusal.{Refusal}
use Rattle.mpt_trace.specs.declared.refusal.RefusedCall.TheVariants as call
use Rattle.mpt_rules.specs.Host.Parts.{Host}
use Rattle.mpt_rules.specs.Host.Takes.{diag_resets, host_aborts, host_resets_target, host_submits, starts, unit_resets}
use Rattle.mpt_rules.specs.Outcome.{Called}
use Rattle.host_core.specs.Faults.{refusal_by}

-- a call as it goes, with the entry of its refusal for an answer
abbrev pub with_refusal : {A : Type 0} → (Refusal → Entry) → Option Refusal → Called Host A → Called Host (Option Entry)
with_refusal refuse cause called = record { part = called.part; told = called.told; answer = option_map refuse cause }

-- the call that an input names; one to the fabric asks nothing of the host
abbrev pub asks : Host → Input → Called Host (Option Entry)
asks host input.Start = with_refusal (entry.Refuse call.Start) (starts host).answer (starts host)
asks host (input.Submit n address form) =
    with_refusal (entry.RefuseSubmit n) (refusal_by (host_submits host n address (command_named form)).answer) (host_submits host n address (command_named form))
asks host (input.Abort n) = with_refusal (entry.Refuse (call.Abort n)) (refusal_by (host_aborts host n).answer) (host_aborts host n)
asks host (input.TargetReset address) =
    with_refusal (entry.Refuse (call.TargetReset address)) (refusal_by (host_resets_target host address).answer) (host_resets_target host address)
asks host input.Reset = with_refusal (entry.Refuse call.Reset) (diag_resets host).answer (diag_resets host)
asks host input.UnitReset = with_refusal (entry.Refuse call.UnitReset) (unit_resets host).answer (unit_resets host)
asks host (input.Plug address expander phy) = record { part = host; told = []; answer = None }
asks host (input.Unplug address) = record { part = host; told = []; answer = None }
