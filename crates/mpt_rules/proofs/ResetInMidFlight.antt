-- A reset while two writes are at the disk: one has run, and both are answered as reset. Computed in pieces.
use Rattle.std.proofs.Common.{◌≡◌, List, [], ◌∷◌, Some, refl}
use Rattle.std.specs.Prelude.{ℕ}
use Rattle.std.specs.FinMap as map
use Rattle.std.proofs.Common.{◌∙◌}
use Rattle.mpt_trace.specs.declared.choice.Choice.TheVariants as choice
use Rattle.mpt_trace.specs.declared.entry.Entry.TheVariants as entry
use Rattle.mpt_trace.specs.declared.input.Input.TheVariants as input
use Rattle.mpt_trace.specs.declared.item.Up.TheVariants as up
use Rattle.mpt_trace.specs.declared.outcome.Outcome.TheVariants as outcome
use Rattle.std.proofs.Common.{ap, true, false}
use Rattle.std.specs.Cmp.{nat_cmp_total}
use Rattle.std.specs.Ordering.{nat_cmp}
use Rattle.mpt_rules.specs.Host.Parts.{Host}
use Rattle.mpt_rules.specs.Ioc.Parts.{Ioc}
use Rattle.std.specs.Prelude.{◌++◌}
use Rattle.mpt_rules.specs.declared.said.Said.{Said}
use Rattle.mpt_rules.specs.World.State.{World}
use Rattle.mpt_rules.specs.World.Cases.{Case, Chosen, Told}
use Rattle.mpt_rules.proofs.SchedulePieces.{Goes, and_then, answers, rounds, tells}
use Rattle.mpt_rules.proofs.WorldExampleParts.{A, one_disk}
use Rattle.mpt_rules.specs.Fabric.Parts.{Fabric}
use Rattle.mpt_rules.specs.Host.Parts.{Cmd}
use Rattle.std.specs.FinMap.{entries-insert, put}
use Rattle.std.proofs.Common.{ℕ, Bool}
use Rattle.std.specs.Prelude.{filter, map as each}
use Rattle.mpi_doorbell.specs.DoorRegisters.{DoorRegisters, diagnostic_value, new_registers}
use Rattle.mpi_doorbell.specs.declared.registers.TheConstants.{HOST_DIAGNOSTIC, IOC_STATE_READY}
use Rattle.mpi_doorbell.specs.declared.stage.Reading.{Reading}
use Rattle.mpi_doorbell.specs.declared.stage.Reading.TheVariants.{ResetOver, State}
use Rattle.mpi_doorbell.specs.declared.stage.ResetKind.TheVariants.{Diagnostic}
use Rattle.mpi_doorbell.specs.declared.stage.Stage.TheVariants.{Awaits}
use Rattle.mpi_doorbell.specs.declared.state.IocState.{IocState}
use Rattle.mpi_doorbell.specs.declared.state.IocState.TheVariants as state
use Rattle.mpt_trace.specs.Entries.{is_in_show}
use Rattle.mpt_trace.specs.declared.entry.Entry.{Entry}
use Rattle.mpt_trace.specs.declared.host_state.HostState.TheVariants as mode
use Rattle.mpt_trace.specs.declared.item.Down.{Down}
use Rattle.mpt_trace.specs.declared.item.Down.TheVariants as down
use Rattle.mpt_trace.specs.declared.item.Out.{Out}
use Rattle.mpt_trace.specs.declared.item.Out.TheVariants as out
use Rattle.mpt_rules.specs.declared.stage.Stage.TheVariants as stage
use Rattle.mpt_rules.specs.Host.Doorbell.{begins_facts, turn_from}
use Rattle.mpt_rules.specs.Host.Resets.{renewed, reset_abort, reset_answer}
use Rattle.mpt_rules.specs.Ioc.Parts.{new_ioc}
use Rattle.ioc_msgs.specs.IocFacts.{ioc_facts_layout, ioc_facts_values}
use Rattle.mpt_rules.proofs.SchedulePieces.{door_after, no_entries}
use Rattle.mpt_rules.proofs.WritesAtTheDisk.{cmd, two_cmds, open_host, sent_ioc, fabric_with, world_of, submits, writes_accepted, sends, writes_sent, one_run, first_run, first_runs}

-- ---- a reset is asked: the host unlocks HostDiagnostic

-- the host with this in its outbox, which waits for this
abbrev pub resetting : List Down → Reading → Host
resetting puts reading =
    record open_host {
      mode = mode.Resetting;
      out = puts;
      stage = stage.DiagnosticReset;
      machine = Some (record { stage = Awaits reading; unsent = []; reply = [] });
      reading = true;
      asked = 1;
      returning = false;
    }

-- HostDiagnostic is unlocked, and the host has the write that resets in its outbox
abbrev pub unlocked : World
unlocked =
    world_of (resetting (down.Write HOST_DIAGNOSTIC 0x84 ∷ down.Read HOST_DIAGNOSTIC ∷ []) ResetOver)
    (sent_ioc (record (door_after 0) { key_place = 6 })) one_run

-- a reset is asked, the keys are written, and HostDiagnostic is read
abbrev pub unlocks : List Case
unlocks = Told input.Reset ∷ tells 8 ++ answers 1

-- nothing is told yet
reset_asked : Goes first_run unlocks [] unlocked
unfolding turn_from
reset_asked = record { shows = refl; leaves = refl }

-- ---- the controller is reset, and forgets all

-- the registers once a reset began
abbrev pub door_in : IocState → ℕ → Bool → DoorRegisters
door_in s keys adapter = record new_registers { state = s; key_place = keys; reset_adapter = adapter; reset_history = true }

-- the controller after a reset, with these registers and outboxes
abbrev pub reset_ioc : DoorRegisters → List Said → List Out → Ioc
reset_ioc door outbox outs = record (new_ioc (4 ∷ []) 1) { door = door; generation = 1; vectors = 1; up = outbox ∷ []; out = outs }

-- the controller asks the fabric to link
abbrev pub reset_begun : World
reset_begun = world_of (resetting (down.Read HOST_DIAGNOSTIC ∷ []) ResetOver) (reset_ioc (door_in state.Reset 6 true) [] (out.Link 1 ∷ [])) one_run

-- the write begins the reset: no handle stands for a disk any more
all_unbound : Goes unlocked (tells 1) (entry.UnbindAll ∷ []) reset_begun
all_unbound = record { shows = refl; leaves = refl }

-- ---- the fabric links: it drops the task and the result

-- the fabric has the byte that was written, and is off
abbrev pub unlinked : Fabric
unlinked = record (fabric_with 0x11 [] []) { on = false }

-- the controller is READY, and the host has the value that it read before on its lane
abbrev pub linked : World
linked =
    record (world_of (resetting [] ResetOver) (reset_ioc (door_in state.Ready 6 false) [] []) unlinked) {
      up = (up.Value (diagnostic_value (door_in state.Reset 6 true)) ∷ []) ∷ [];
    }

-- the fabric links, and the controller hears of it
abbrev pub links : List Case
links = tells 1 ++ rounds 1 (choice.IocOut ∷ choice.FabricTake ∷ choice.FabricPut ∷ choice.IocBack ∷ choice.IocPut ∷ [])

-- nothing is told of it
fabric_linked : Goes reset_begun links [] linked
fabric_linked = record { shows = refl; leaves = refl }

-- ---- the host waits until the reset is over, and locks HostDiagnostic

-- the state that the Doorbell has is on the lane
abbrev pub locked : World
locked =
    record (world_of (resetting [] (State Diagnostic)) (reset_ioc (door_in state.Ready 0 false) [] []) unlinked) { up = (up.Value IOC_STATE_READY ∷ []) ∷ [] }

-- HostDiagnostic is read again, cleared and locked, and the Doorbell is read
abbrev pub locks : List Case
locks = Chosen choice.HostTake ∷ tells 1 ++ answers 1 ++ tells 3 ++ Chosen choice.IocPut ∷ []

-- nothing is told of it
reset_over : Goes linked locks [] locked
unfolding turn_from
reset_over = record { shows = refl; leaves = refl }

-- ---- it reads READY: both writes are answered as reset

-- the submissions that are open
two_entries : map.entries two_cmds ≡ (1, cmd 1) ∷ (2, cmd 2) ∷ []
two_entries =
    entries-insert nat_cmp_total (map.insert map.empty 1 (cmd 1)) 2 (cmd 2)
    ∙ ap (put nat_cmp 2 (cmd 2)) (entries-insert nat_cmp_total map.empty 1 (cmd 1) ∙ ap (put nat_cmp 1 (cmd 1)) no_entries)

-- what is told of these open submissions and aborts
abbrev pub told_of : List (ℕ × Cmd) → List (ℕ × ℕ) → List Entry
told_of cmds aborts =
    filter is_in_show ((each reset_answer (each (λ e. e.0) cmds) ++ (each reset_abort (each (λ e. e.0) aborts) ++ entry.ResetDone ∷ [])) ++ [])

-- the host begins with IOC Facts, and has no identifier, frame or handle taken
abbrev pub restarting : World
restarting =
    world_of (begins_facts (renewed (record open_host { asked = 1 }))) (reset_ioc (door_in state.Ready 0 false) [] []) unlinked

-- both are told as reset, also the one that ran, and then the reset as done
both_answered : Goes locked (Chosen choice.HostTake ∷ []) (entry.Answer 1 outcome.Reset ∷ entry.Answer 2 outcome.Reset ∷ entry.ResetDone ∷ []) restarting
unfolding turn_from ioc_facts_layout ioc_facts_values
both_answered =
    record {
      shows = ap (λ cmds. told_of cmds (map.entries open_host.aborts)) two_entries ∙ ap (told_of ((1, cmd 1) ∷ (2, cmd 2) ∷ [])) no_entries;
      leaves = refl;
    }

-- ---- all of it, up to the start that follows

-- the pieces one after the other
abbrev pub reset_cases : List Case
reset_cases = submits ++ sends ++ Chosen (choice.FabricRun 1) ∷ unlocks ++ tells 1 ++ links ++ locks ++ Chosen choice.HostTake ∷ []

-- what a short report shows of them
pub reset_in_mid_flight : Goes (one_disk 1) reset_cases
    (entry.Accept 1 A 1 ∷ entry.Accept 2 A 2 ∷ entry.Run A 1 ∷ entry.UnbindAll ∷ entry.Answer 1 outcome.Reset ∷ entry.Answer 2 outcome.Reset ∷ entry.ResetDone ∷ []) restarting
reset_in_mid_flight =
    and_then writes_accepted (and_then writes_sent (and_then first_runs (and_then reset_asked (and_then all_unbound (and_then fabric_linked (and_then reset_over both_answered))))))
