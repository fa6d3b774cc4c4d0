-- Entries that pass every rule of the law, and what the law states of a trace that does.
use Rattle.std.proofs.Common.{◌≢◌, ℕ, ◌<◌, ◌≤◌, List}
use Rattle.mpt_trace.specs.declared.entry.Entry.{Entry}
use Rattle.mpt_wire.specs.Handles.Bindings.{bound_next}
use Rattle.mpt_wire.specs.Handles.Leaving.{LeaveAsks, leaving_next}
use Rattle.mpt_wire.specs.Handles.Pages.{PageAsks, PagedAsks, paged_next}
use Rattle.mpt_wire.specs.Handles.Plugs.{ServedAsks, served_next}
use Rattle.mpt_wire.specs.Handles.Removals.{UnbindAsks, removals_next}
use Rattle.mpt_wire.specs.Handles.Tasks.{TaskAsks, aiming_next}
use Rattle.mpt_wire.specs.Machine.View.{SeenAsks, seen_next}
use Rattle.mpt_wire.specs.Messages.DoorbellWords.{DoorAsks, door_next}
use Rattle.mpt_wire.specs.Messages.Registers.{BellAsks, IndicesAsk, RingAsks, bell_next, indices_next, ring_next}
use Rattle.mpt_wire.specs.Messages.Standing.{MessageAsks}
use Rattle.mpt_wire.specs.Messages.Told.{HearingAsks, hearing_next}
use Rattle.mpt_wire.specs.Paths.Replies.{RepliesAsk}
use Rattle.mpt_wire.specs.Paths.Stages.{WalkAsks, walk_next}
use Rattle.mpt_wire.specs.Paths.Stops.{StopAsks, stopping_next}
use Rattle.mpt_wire.specs.Paths.TerminationCounts.{HighAsks, high_next}
use Rattle.mpt_wire.specs.Queues.Frames.{frame_stage}
use Rattle.mpt_wire.specs.Queues.Identifiers.{ClassesKept, smid_stage}
use Rattle.mpt_wire.specs.Queues.LeastPosts.{GivingAsks, giving_next}
use Rattle.mpt_wire.specs.Queues.Marks.{MarkAsks, ReplyLaneAsks, marks_next}
use Rattle.mpt_wire.specs.Walks.Ahead.{PassesAhead}
use Rattle.mpt_wire.specs.Walks.Cycles.{TurnAsks, turn_next}
use Rattle.mpt_wire.specs.Walks.Passes.{EachEntry, Passes}
use Rattle.law_facts.specs.History.{History}
use Rattle.law_ties.specs.Shown.{ResetsUnbind}
use Rattle.mpt_rules.specs.Law.{CommandsGoOnPaths, DisksRun, EntriesAreTied, FramesGoRound, HandlesAreRemoved, HandlesAreServed, HandshakesHandOver, IdentifiersGoRound, MessagesStand, PagesHaveTheirAddress, RepliesKeepTheirQueues, RepliesTellResults, StopsAreCounted, TasksHaveTheirAddress}
use Rattle.mpt_rules.specs.World.Settings.{Setting}

-- entries that pass every rule behind what was said, with q reply queues. Of submissions another law says that each takes the least identifier
pub record Passed (q : ℕ) (h : History) (t : List Entry) : Type 0 where
  pub identifiers : (s : ℕ) → s ≢ 0 → Passes (turn_next (smid_stage s)) (TurnAsks (smid_stage s)) (h.turn s) t
  pub classes : ClassesKept t
  pub frames : (address : ℕ) → Passes (turn_next (frame_stage address)) (TurnAsks (frame_stage address)) (h.frame_turn address) t
  pub served : Passes served_next ServedAsks h.serving t
  pub unbinds : Passes removals_next UnbindAsks h.removals t
  pub leaving : (handle : ℕ) → Passes (leaving_next handle) (LeaveAsks handle) (h.leaving handle) t
  pub pages : Passes bound_next PageAsks h.aiming.bound t
  pub posts : Passes paged_next PagedAsks h.paged t
  pub tasks : Passes aiming_next TaskAsks h.aiming t
  pub messages : EachEntry (MessageAsks q) t
  pub doorbell : Passes door_next (DoorAsks q) h.door t
  pub walks : (s : ℕ) → Passes (walk_next s) (WalkAsks s) (h.walk s) t
  pub tells : (s : ℕ) → Passes (walk_next s) (RepliesAsk s) (h.walk s) t
  pub counts : (s : ℕ) → Passes (high_next s) (HighAsks s) (h.high s) t
  pub stops : (s : ℕ) → Passes (stopping_next s) (StopAsks s) (h.stopping s) t
  pub lanes : EachEntry (ReplyLaneAsks q) t
  pub marks : (queue : ℕ) → 1 ≤ queue → queue < q → Passes (marks_next queue) (MarkAsks queue) (h.marking queue) t
  pub told : Passes hearing_next HearingAsks h.hearing t
  pub resets : ResetsUnbind t
  pub indices : Passes indices_next IndicesAsk h.indices t
  pub ring : Passes ring_next RingAsks h.ring t
  pub bell : Passes bell_next BellAsks h.bell t
  pub given : PassesAhead giving_next GivingAsks h.giving t
  pub machine : PassesAhead seen_next SeenAsks (record { machine = h.machine; so_far = h.so_far }) t

-- what the law states of a trace and its rules carry
pub record CarriedByRules (s : Setting) (t : List Entry) : Type 0 where
  pub identifiers : IdentifiersGoRound s t
  pub frames : FramesGoRound s t
  pub served : HandlesAreServed s t
  pub removed : HandlesAreRemoved s t
  pub pages : PagesHaveTheirAddress s t
  pub tasks : TasksHaveTheirAddress s t
  pub messages : MessagesStand s t
  pub handshakes : HandshakesHandOver s t
  pub paths : CommandsGoOnPaths s t
  pub results : RepliesTellResults s t
  pub counts : StopsAreCounted s t
  pub queues : RepliesKeepTheirQueues s t
  pub tied : EntriesAreTied s t
  pub disks : DisksRun s t
