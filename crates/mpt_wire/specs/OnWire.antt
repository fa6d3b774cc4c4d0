-- All rules of handles, and all rules of reply queues and messages, over a trace.
use Rattle.std.specs.Prelude.{ℕ, ◌<◌, ◌≤◌, None, List}
use Rattle.mpt_trace.specs.declared.entry.Entry.{Entry}
use Rattle.mpt_wire.specs.Walks.Passes.{EachEntry, Passes}
use Rattle.mpt_wire.specs.Handles.Bindings.{bound_next}
use Rattle.mpt_wire.specs.Handles.Plugs.{PlugsAreServed, ServesPlugs}
use Rattle.mpt_wire.specs.Handles.Removals.{UnbindAsks, UnbindsAreRemovals, no_removals, removals_next}
use Rattle.mpt_wire.specs.Handles.Leaving.{LeaveAsks, RemovesWhatLeft, Unknown, leaving_next}
use Rattle.mpt_wire.specs.Handles.Pages.{PageAsks, PagedAsks, PagesAreOfBindings, PostsGoToPages, nothing_paged, paged_next}
use Rattle.mpt_wire.specs.Handles.Tasks.{TaskAsks, TasksGoToBindings, aiming_next, nothing_aimed}
use Rattle.mpt_wire.specs.Queues.Marks.{ReplyLaneAsks, LanesAreMarked, MarkAsks, RepliesOnTheirLanes, marks_next, no_marking}
use Rattle.mpt_wire.specs.Messages.Standing.{MessageAsks, MessagesStand}
use Rattle.mpt_wire.specs.Messages.DoorbellWords.{DoorbellTalks}

-- the handles of a trace
pub record HandlesOnWire (t : List Entry) : Type 0 where
  pub plugs : PlugsAreServed t
  pub unbinds : UnbindsAreRemovals t
  pub pages : PagesAreOfBindings t
  pub posts : PostsGoToPages t
  pub tasks : TasksGoToBindings t
  pub leaving : (h : ℕ) → RemovesWhatLeft h t

-- the same as rules that go over the entries
pub record HandlesPass (t : List Entry) : Type 0 where
  pub plugs : ServesPlugs t
  pub unbinds : Passes removals_next UnbindAsks no_removals t
  pub pages : Passes bound_next PageAsks (λ h. None) t
  pub posts : Passes paged_next PagedAsks nothing_paged t
  pub tasks : Passes aiming_next TaskAsks nothing_aimed t
  pub leaving : (h : ℕ) → Passes (leaving_next h) (LeaveAsks h) Unknown t

-- the reply queues of a trace with q of them
pub record QueuesOnWire (q : ℕ) (t : List Entry) : Type 0 where
  pub replies : RepliesOnTheirLanes q t
  pub marks : LanesAreMarked q t

pub record QueuesPass (q : ℕ) (t : List Entry) : Type 0 where
  pub replies : EachEntry (ReplyLaneAsks q) t
  pub marks : (i : ℕ) → 1 ≤ i → i < q → Passes (marks_next i) (MarkAsks i) no_marking t

-- the messages of a trace with q reply queues; a handshake is said by the rule that goes over the entries
pub record MessagesOnWire (q : ℕ) (t : List Entry) : Type 0 where
  pub frames : MessagesStand q t
  pub doorbell : DoorbellTalks q t

pub record MessagesPass (q : ℕ) (t : List Entry) : Type 0 where
  pub frames : EachEntry (MessageAsks q) t
  pub doorbell : DoorbellTalks q t
