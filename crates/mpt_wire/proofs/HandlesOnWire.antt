-- What passes all rules of handles, of reply queues or of messages keeps them.
use Rattle.std.proofs.Common.{◌≡◌, ℕ, List, ◌∷◌, ◌++◌}
use Rattle.mpt_trace.specs.declared.entry.Entry.{Entry}
use Rattle.mpt_wire.specs.Walks.Passes.{state_after}
use Rattle.mpt_wire.specs.Messages.DoorbellWords.{DoorAsks, DoorbellTalks, IsTalk, door_next, quiet_door}
use Rattle.mpt_wire.specs.OnWire.{HandlesOnWire, HandlesPass, MessagesOnWire, MessagesPass, QueuesOnWire, QueuesPass}
use Rattle.mpt_wire.proofs.Each.{messages_stand, replies_on_their_lanes}
use Rattle.mpt_wire.proofs.Lasting.{asked_in}
use Rattle.mpt_wire.proofs.Leaving.{removes_what_left}
use Rattle.mpt_wire.proofs.Marks.{lane_is_marked}
use Rattle.mpt_wire.proofs.Pages.{pages_are_of_bindings, posts_go_to_pages}
use Rattle.mpt_wire.proofs.PlugsInTurn.{plugs_are_served}
use Rattle.mpt_wire.proofs.Removals.{unbinds_are_removals}
use Rattle.mpt_wire.proofs.Tasks.{tasks_go_to_bindings}

pub handles_on_wire : (t : List Entry) → HandlesPass t → HandlesOnWire t
handles_on_wire t p =
    record {
      plugs = plugs_are_served t p.plugs;
      unbinds = unbinds_are_removals t p.unbinds;
      pages = pages_are_of_bindings t p.pages;
      posts = posts_go_to_pages t p.posts;
      tasks = tasks_go_to_bindings t p.tasks;
      leaving = λ h. removes_what_left h t (p.leaving h);
    }

pub queues_on_wire : (q : ℕ) (t : List Entry) → QueuesPass q t → QueuesOnWire q t
queues_on_wire q t p = record { replies = replies_on_their_lanes q t p.replies; marks = λ i a b. lane_is_marked i t (p.marks i a b) }

pub messages_on_wire : (q : ℕ) (t : List Entry) → MessagesPass q t → MessagesOnWire q t
messages_on_wire q t p = record { frames = messages_stand q t p.frames; doorbell = p.doorbell }

-- behind each entry the handshake is one of the host's, as far as it came
pub talks_there : (q : ℕ) (t before after : List Entry) (e : Entry) → DoorbellTalks q t → t ≡ before ++ e ∷ after → IsTalk q (door_next (state_after door_next quiet_door before) e).talk
talks_there q t before after e p split = let a = asked_in door_next (DoorAsks q) quiet_door t before after e p split in a.1
