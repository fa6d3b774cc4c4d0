-- The handle of a disk that was removed is given to another one, and the writes for the first are answered as gone. Computed in pieces.
use Rattle.std.proofs.Common.{◌≡◌, List, [], ◌∷◌, None, refl}
use Rattle.std.specs.Prelude.{ℕ}
use Rattle.std.specs.FinMap as map
use Rattle.mpi_layout.specs.Rows.{field}
use Rattle.mpt_wire.specs.Messages.Fields.{topology_change_list}
use Rattle.std.proofs.Common.{◌∙◌}
use Rattle.mpt_rules.specs.declared.request.Request.{Request}
use Rattle.smid_pool.specs.Pool.{Free, Open, Slot, all_free, with_slot}
use Rattle.mpt_rules.specs.Host.Replies.{slot_after}
use Rattle.std.specs.FinMap.{get-empty}
use Rattle.scsi_msgs.specs.ScsiReply.{scsi_reply_layout, scsi_reply_values}
use Rattle.event_msgs.specs.EventAckReply.{event_ack_reply_layout, event_ack_reply_values}
use Rattle.ioc_msgs.specs.UnitControlReply.{unit_control_reply_layout, unit_control_reply_values}
use Rattle.mpt_trace.specs.declared.choice.Choice.TheVariants as choice
use Rattle.mpt_trace.specs.declared.entry.Entry.TheVariants as entry
use Rattle.mpt_trace.specs.declared.input.Input.TheVariants as input
use Rattle.mpt_trace.specs.declared.outcome.Outcome.TheVariants as outcome
use Rattle.mpt_rules.specs.declared.binding.Binding.TheVariants as binding
use Rattle.mpt_rules.specs.declared.post.Post.{Post}
use Rattle.mpt_rules.specs.declared.request.Request.TheVariants as request
use Rattle.mpt_rules.specs.Fabric.Parts.{FabricDisk}
use Rattle.std.proofs.Common.{ap, true}
use Rattle.std.specs.Ordering.{nat_cmp}
use Rattle.mpt_rules.specs.Ioc.Bindings.{tells_change}
use Rattle.mpt_rules.specs.Host.Parts.{Host}
use Rattle.mpt_rules.specs.Ioc.Parts.{Ioc}
use Rattle.mpt_rules.specs.Ioc.Replies.{framed}
use Rattle.mpt_rules.specs.Ioc.Tables.{with_binding}
use Rattle.std.specs.Prelude.{◌++◌}
use Rattle.std.specs.FinSet as set
use Rattle.std.specs.FinSet.{FinSet}
use Rattle.removal.specs.declared.phase.Phase.{Phase}
use Rattle.removal.specs.Handles.{all_absent, with_phase}
use Rattle.removal.specs.declared.phase.Phase.TheVariants as phase
use Rattle.mpt_messages.specs.declared.ioc_reply.IocReply.TheVariants as reply
use Rattle.mpt_rules.specs.declared.said.Said.{Said}
use Rattle.mpt_rules.specs.World.State.{World}
use Rattle.mpt_rules.specs.World.Cases.{Case, Told}
use Rattle.mpt_rules.proofs.HandleRemoved.{handle_free, three_open}
use Rattle.mpt_rules.proofs.SchedulePieces.{Goes, ack_reply, answers, host_at, ioc_at, removal_reply, rounds, tells}
use Rattle.mpt_rules.proofs.WorldExampleParts.{A, B, plugged_disk, up_fabric, up_host, up_world}

-- ---- the worlds in which B has the handle

-- the disks: A isn't plugged, B is
abbrev pub swapped : List FabricDisk
swapped = record (plugged_disk A 0) { at = None } ∷ plugged_disk B 0 ∷ []

-- the host with these identifiers and this phase of the handle, once it has taken so many replies; no submission is open
abbrev pub host_with : List (Slot Request) → Phase → ℕ → Host
host_with pool p replies =
    record (host_at pool (with_phase all_absent 0x0009 p) replies replies) {
      cmds = map.remove (map.remove (map.remove three_open.host.cmds 1) 2) 3;
      accepted = three_open.host.accepted;
    }

-- the contexts that aren't acknowledged once B is bound
abbrev pub with_event : FinSet nat_cmp
with_event = set.insert (set.remove (set.insert set.empty 2) 2) 3

-- the controller with these contexts, posts and replies, once it knows of so many replies
abbrev pub ioc_with : FinSet nat_cmp → List Post → List Said → ℕ → Ioc
ioc_with unacked posts outbox replies =
    record (with_binding (ioc_at replies replies) 0x0009 (binding.Present B 1 0 0)) { unacked = unacked; context = 4; normal = posts; up = outbox ∷ [] }

-- a world with this host and this controller
abbrev pub b_world : Host → Ioc → World
b_world host ioc = record (up_world swapped 1) { host = host; ioc = ioc }

-- the identifiers of an acknowledgement and of another request of the internal class
abbrev pub two_open : ℕ → Request → List (Slot Request)
two_open context r = with_slot 265 (Open (request.Ack topology_change_list context)) (with_slot 266 (Open r) all_free)

-- the event of B
abbrev pub b_event : Said
b_event = framed 0 (reply.Topology 3 0x0009 0 4 0 true)

-- ---- B is plugged, and is given the handle

-- the controller has B under the handle, and an event of it to put
abbrev pub b_bound : World
b_bound =
    record handle_free {
      ioc = tells_change (with_binding handle_free.ioc 0x0009 (binding.Present B 1 0 0)) 0x0009 0 0 true;
      fabric = up_fabric swapped;
    }

-- B is plugged, and the controller hears of it
abbrev pub plugs_b : List Case
plugs_b = Told (input.Plug B 0 0) ∷ rounds 1 (choice.FabricSay ∷ choice.FabricPut ∷ choice.IocBack ∷ [])

-- B is given the handle that A had
pub b_plugged : Goes handle_free plugs_b (entry.Bind 0x0009 B 1 ∷ []) b_bound
b_plugged = record { shows = refl; leaves = refl }

-- ---- the three writes are answered: no abort is open, so their identifiers are free

-- the slot of the identifier of a command that was answered
abbrev pub freed : ℕ → Slot Request
freed n = slot_after (map.get (up_host 1).aborts n)

-- it is free
pub freed_is_free : (n : ℕ) → freed n ≡ Free
freed_is_free n = ap slot_after (get-empty nat_cmp n)

-- the three are answered, with these identifiers
abbrev pub all_gone : List (Slot Request) → World
all_gone pool = b_world (host_with pool (phase.Removing 266) 5) (ioc_with with_event [] (ack_reply 265 ∷ removal_reply 266 0x0009 ∷ b_event ∷ []) 5)

-- the identifiers then, of which three are these
abbrev pub and_three : Slot Request → Slot Request → Slot Request → List (Slot Request)
and_three a b c = with_slot 1 a (with_slot 2 b (with_slot 3 c (two_open 2 (request.Remove 0x0009))))

-- each is told as gone
pub writes_answered : Goes b_bound (answers 3 ++ tells 6)
    (entry.Answer 1 outcome.Gone ∷ entry.Answer 2 outcome.Gone ∷ entry.Answer 3 outcome.Gone ∷ []) (all_gone (two_open 2 (request.Remove 0x0009)))
unfolding field scsi_reply_layout scsi_reply_values
writes_answered =
    record {
      shows = refl;
      leaves =
          ap (λ a. all_gone (and_three a (freed 2) (freed 3))) (freed_is_free 1)
          ∙ (ap (λ b. all_gone (and_three Free b (freed 3))) (freed_is_free 2) ∙ ap (λ c. all_gone (and_three Free Free c)) (freed_is_free 3));
    }

-- ---- the acknowledgement and the removal are answered, and the handle is absent

-- the host knows no disk under the handle
abbrev pub handle_absent : World
handle_absent = b_world (host_with all_free phase.Absent 7) (ioc_with with_event [] (b_event ∷ []) 7)

-- the removal is over, and nothing is told of it
pub removal_answered : Goes (all_gone (two_open 2 (request.Remove 0x0009))) (answers 2 ++ tells 4) [] handle_absent
unfolding field event_ack_reply_layout event_ack_reply_values unit_control_reply_layout unit_control_reply_values
removal_answered = record { shows = refl; leaves = refl }
