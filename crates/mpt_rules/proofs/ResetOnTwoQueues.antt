-- A reset with two reply queues: a reply that is on the second one's lane is taken before the reset's mark. Computed in pieces.
use Rattle.std.proofs.Common.{◌≡◌, List, [], ◌∷◌, Some, refl}
use Rattle.std.specs.Prelude.{ℕ}
use Rattle.std.specs.FinMap as map
use Rattle.mpi_layout.specs.Rows.{field}
use Rattle.std.proofs.Common.{◌∙◌}
use Rattle.mpt_rules.specs.declared.request.Request.{Request}
use Rattle.smid_pool.specs.Pool.{Free, Open, Slot, all_free, with_slot}
use Rattle.mpt_rules.specs.Host.Replies.{slot_after}
use Rattle.std.specs.FinMap.{get-empty, get-insert}
use Rattle.mpt_trace.specs.declared.choice.Choice.TheVariants as choice
use Rattle.mpt_trace.specs.declared.entry.Entry.TheVariants as entry
use Rattle.mpt_trace.specs.declared.input.Input.TheVariants as input
use Rattle.mpt_trace.specs.declared.item.Up.TheVariants as up
use Rattle.mpt_trace.specs.declared.outcome.Outcome.TheVariants as outcome
use Rattle.mpt_rules.specs.declared.request.Request.TheVariants as request
use Rattle.std.proofs.Common.{ap, true, false}
use Rattle.std.specs.Cmp.{nat_cmp_total}
use Rattle.std.specs.Ordering.{nat_cmp}
use Rattle.mpt_rules.specs.Host.Parts.{Host}
use Rattle.mpt_rules.specs.Ioc.Parts.{Ioc}
use Rattle.std.specs.Prelude.{◌++◌}
use Rattle.mpt_rules.specs.declared.said.Said.{Said}
use Rattle.mpt_rules.specs.World.State.{World}
use Rattle.mpt_rules.specs.World.Cases.{Case, Chosen, Told}
use Rattle.mpt_rules.proofs.SchedulePieces.{Goes, and_then, answers, rounds, tells}
use Rattle.mpt_rules.proofs.WorldExampleParts.{A, one_disk}
use Rattle.mpt_rules.specs.declared.said.Said.TheVariants as said
use Rattle.mpt_rules.specs.Host.Parts.{Cmd}
use Rattle.std.specs.FinMap.{FinMap}
use Rattle.std.specs.FinMap.{entries-insert, put}
use Rattle.std.proofs.Common.{ℕ}
use Rattle.mpi_doorbell.specs.DoorRegisters.{DoorRegisters, diagnostic_value}
use Rattle.mpi_doorbell.specs.declared.registers.TheConstants.{HOST_DIAGNOSTIC, IOC_STATE_READY}
use Rattle.mpi_doorbell.specs.declared.stage.Reading.{Reading}
use Rattle.mpi_doorbell.specs.declared.stage.Reading.TheVariants.{ResetOver, State}
use Rattle.mpi_doorbell.specs.declared.stage.ResetKind.TheVariants.{Diagnostic}
use Rattle.mpi_doorbell.specs.declared.stage.Stage.TheVariants.{Awaits}
use Rattle.mpi_doorbell.specs.declared.state.IocState.TheVariants as state
use Rattle.mpt_trace.specs.declared.host_state.HostState.TheVariants as mode
use Rattle.mpt_trace.specs.declared.item.Down.{Down}
use Rattle.mpt_trace.specs.declared.item.Down.TheVariants as down
use Rattle.mpt_trace.specs.declared.item.Out.{Out}
use Rattle.mpt_trace.specs.declared.item.Out.TheVariants as out
use Rattle.mpt_rules.specs.declared.stage.Stage.TheVariants as stage
use Rattle.mpt_rules.specs.Host.Doorbell.{begins_facts, turn_from}
use Rattle.mpt_rules.specs.Host.Resets.{renewed}
use Rattle.mpt_rules.specs.Ioc.Parts.{new_ioc}
use Rattle.ioc_msgs.specs.IocFacts.{ioc_facts_layout, ioc_facts_values}
use Rattle.mpt_rules.proofs.SchedulePieces.{door_after, no_entries, remove_inserted}
use Rattle.mpi_doorbell.specs.declared.registers.TheConstants.{REPLY_POST_HOST_INDEX}
use Rattle.mpt_rules.specs.Host.Replies.{index_value}
use Rattle.mpt_rules.proofs.ResetInMidFlight.{door_in, told_of, unlinked}
use Rattle.mpt_rules.proofs.WritesAtTheDisk.{cmd, two_cmds}
use Rattle.mpt_rules.proofs.CommandsOnTwoQueues.{open_host, sent_ioc, one_run, world_of, second_reply, submits, commands_accepted, second_run, runs, second_runs}

-- ---- a reset is asked: the host unlocks HostDiagnostic

-- the host with these open submissions and identifiers, that has taken so many replies of the second queue
abbrev resetting : FinMap nat_cmp Cmd → Slot Request → ℕ → List Down → Reading → Host
resetting cmds slot second puts reading =
    record open_host {
      pool = with_slot 1 (Open (request.Command 1)) (with_slot 2 slot all_free);
      cmds = cmds;
      indices = 0 ∷ second ∷ [];
      mode = mode.Resetting;
      out = puts;
      stage = stage.DiagnosticReset;
      machine = Some (record { stage = Awaits reading; unsent = []; reply = [] });
      reading = true;
      asked = 1;
      returning = false;
    }

-- HostDiagnostic is unlocked, and the host has the write that resets in its outbox
abbrev unlocked : World
unlocked =
    world_of (resetting two_cmds (Open (request.Command 2)) 0 (down.Write HOST_DIAGNOSTIC 0x84 ∷ down.Read HOST_DIAGNOSTIC ∷ []) ResetOver)
    (sent_ioc (record (door_after 0) { key_place = 6 })) one_run [] (second_reply ∷ [])

-- a reset is asked, the keys are written, and HostDiagnostic is read
abbrev unlocks : List Case
unlocks = Told input.Reset ∷ tells 8 ++ answers 1

-- nothing is told yet
reset_asked : Goes second_run unlocks [] unlocked
unfolding turn_from
reset_asked = record { shows = refl; leaves = refl }

-- ---- the controller is reset: its mark goes behind the reply

-- the controller after a reset, with these registers and outboxes
abbrev reset_ioc : DoorRegisters → List Said → List Said → List Out → Ioc
reset_ioc door first second outs = record (new_ioc (4 ∷ []) 2) { door = door; generation = 1; vectors = 2; up = first ∷ second ∷ []; out = outs }

-- the mark waits for the second queue
abbrev waiting : World
waiting =
    world_of (resetting two_cmds (Open (request.Command 2)) 0 (down.Read HOST_DIAGNOSTIC ∷ []) ResetOver)
    (reset_ioc (door_in state.Reset 6 true) [] (said.Mark 1 ∷ []) (out.Link 1 ∷ [])) one_run [] (second_reply ∷ [])

-- the write begins the reset: no handle stands for a disk any more
all_unbound : Goes unlocked (tells 1) (entry.UnbindAll ∷ []) waiting
all_unbound = record { shows = refl; leaves = refl }

-- the reply and the mark are on the lane of the second queue
abbrev linked : World
linked =
    world_of (resetting two_cmds (Open (request.Command 2)) 0 [] ResetOver) (reset_ioc (door_in state.Ready 6 false) [] [] []) unlinked
    (up.Value (diagnostic_value (door_in state.Reset 6 true)) ∷ []) (second_reply ∷ up.Mark 1 ∷ [])

-- the fabric links, and the mark is put
abbrev links : List Case
links = tells 1 ++ rounds 1 (choice.IocOut ∷ choice.FabricTake ∷ choice.FabricPut ∷ choice.IocBack ∷ choice.IocPut ∷ choice.IocPutOn 1 ∷ [])

-- nothing is told of it
fabric_linked : Goes waiting links [] linked
fabric_linked = record { shows = refl; leaves = refl }

-- ---- the reply still answers its command, and not the reset

-- the first command is open
abbrev one_cmd : FinMap nat_cmp Cmd
one_cmd = map.insert map.empty 1 (cmd 1)

-- the second command is answered, with these open submissions and this slot of its identifier
abbrev replied : FinMap nat_cmp Cmd → Slot Request → World
replied cmds slot =
    world_of (resetting cmds slot 1 (down.Read HOST_DIAGNOSTIC ∷ down.Write REPLY_POST_HOST_INDEX (index_value 1 1) ∷ []) ResetOver)
    (reset_ioc (door_in state.Ready 6 false) [] [] []) unlinked [] (up.Mark 1 ∷ [])

-- the second one is not open any more
two_without : map.remove two_cmds 2 ≡ one_cmd
two_without = remove_inserted one_cmd 2 (cmd 2) (get-insert nat_cmp_total map.empty 1 (cmd 1) 2 ∙ get-empty nat_cmp 2)

-- the command that the reply names is done
the_reply_comes_before_the_mark : Goes linked (Chosen choice.HostTake ∷ Chosen (choice.HostTakeOn 1) ∷ [])
    (entry.Answer 2 (outcome.Done (record { status = 0; payload = []; sense = [] })) ∷ []) (replied one_cmd Free)
unfolding field turn_from
the_reply_comes_before_the_mark =
    record {
      shows = refl;
      leaves = ap (λ slot. replied (map.remove two_cmds 2) (slot_after slot)) (get-empty nat_cmp 2) ∙ ap (λ cmds. replied cmds Free) two_without;
    }

-- ---- the mark is taken, and HostDiagnostic locked

-- the registers once the host has told of the reply
abbrev told_door : DoorRegisters
told_door = record (door_in state.Ready 0 false) { reply_post_host_index = index_value 1 1 }

-- the mark was taken, and the state that the Doorbell has is on the lane
abbrev marked : World
marked =
    world_of (record (resetting one_cmd Free 1 [] (State Diagnostic)) { marks = false ∷ true ∷ [] }) (reset_ioc told_door [] [] []) unlinked
    (up.Value IOC_STATE_READY ∷ []) []

-- HostDiagnostic is read again, the mark is taken, and the Doorbell is read
abbrev locks : List Case
locks = tells 2 ++ answers 1 ++ Chosen (choice.HostTakeOn 1) ∷ tells 3 ++ Chosen choice.IocPut ∷ []

-- nothing is told of it
mark_taken : Goes (replied one_cmd Free) locks [] marked
unfolding turn_from
mark_taken = record { shows = refl; leaves = refl }

-- ---- the host reads READY: the other command is answered as reset

-- the submission that is open
one_entry : map.entries one_cmd ≡ (1, cmd 1) ∷ []
one_entry = entries-insert nat_cmp_total map.empty 1 (cmd 1) ∙ ap (put nat_cmp 1 (cmd 1)) no_entries

-- the host begins with IOC Facts, and has no identifier, frame or handle taken
abbrev pub restarting_on_two : World
restarting_on_two =
    world_of (begins_facts (renewed (record open_host { asked = 1; indices = 0 ∷ 1 ∷ []; marks = false ∷ true ∷ [] }))) (reset_ioc told_door [] [] []) unlinked [] []

-- it is told as reset, and then the reset as done
one_answered : Goes marked (Chosen choice.HostTake ∷ []) (entry.Answer 1 outcome.Reset ∷ entry.ResetDone ∷ []) restarting_on_two
unfolding turn_from ioc_facts_layout ioc_facts_values
one_answered =
    record {
      shows = ap (λ cmds. told_of cmds (map.entries open_host.aborts)) one_entry ∙ ap (told_of ((1, cmd 1) ∷ [])) no_entries;
      leaves = refl;
    }

-- ---- all of it, up to the start that follows

-- the pieces one after the other
abbrev pub reset_cases_on_two : List Case
reset_cases_on_two =
    submits ++ runs ++ unlocks ++ tells 1 ++ links ++ Chosen choice.HostTake ∷ Chosen (choice.HostTakeOn 1) ∷ locks ++ Chosen choice.HostTake ∷ []

-- what a short report shows of them
pub reset_with_two_queues : Goes (one_disk 2) reset_cases_on_two
    (entry.Accept 1 A 1 ∷ entry.Accept 2 A 2 ∷ entry.Run A 2 ∷ entry.UnbindAll ∷ entry.Answer 2 (outcome.Done (record { status = 0; payload = []; sense = [] }))
    ∷ entry.Answer 1 outcome.Reset ∷ entry.ResetDone ∷ []) restarting_on_two
reset_with_two_queues =
    and_then commands_accepted (and_then second_runs (and_then reset_asked (and_then all_unbound (and_then fabric_linked
    (and_then the_reply_comes_before_the_mark (and_then mark_taken one_answered))))))
