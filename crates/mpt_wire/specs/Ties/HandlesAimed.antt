-- The handles that the host's requests name: those that it was told of, and in an abort that of the post which it names.
use Rattle.std.specs.Prelude.{◌≡◌, ℕ, ◌==◌, ◌&&◌, ◌||◌, Bool, true, false, if◌then◌else◌, List, ◌∷◌, ◌++◌, Option, Some, None}
use Rattle.std.specs.List.{list_any}
use Rattle.std.specs.Bool.{MatchBool}
use Rattle.mpt_messages.specs.FrameBytes.{message_frame}
use Rattle.mpt_messages.specs.HostFrames.{host_message}
use Rattle.mpt_messages.specs.declared.host_ask.HostAsk.{HostAsk}
use Rattle.mpt_messages.specs.declared.host_ask.HostAsk.TheVariants as ask
use Rattle.mpt_trace.specs.declared.lane.LaneName.{LaneName}
use Rattle.mpt_trace.specs.declared.item.Item.TheVariants as item
use Rattle.mpt_trace.specs.declared.item.Down.TheVariants as down
use Rattle.mpt_trace.specs.declared.entry.Entry.{Entry}
use Rattle.mpt_trace.specs.declared.entry.Entry.TheVariants as entry
use Rattle.mpt_wire.specs.Messages.Fields.{Change, abort_task, target_added}
use Rattle.mpt_wire.specs.Handles.Names.{changes_told}
use Rattle.mpt_wire.specs.Walks.Lasting.{Lasts}
use Rattle.mpt_wire.specs.Handles.Pages.{aimed_in_put}
use Rattle.mpt_wire.specs.Walks.Passes.{Passes}
use Rattle.mpt_wire.specs.Handles.Tasks.{IsPostedTo, handle_posted}

-- the change says that the handle's disk was added
abbrev pub is_added_of : ℕ → Change → Bool
is_added_of h change = change.handle == h && change.status == target_added

abbrev pub adds_handle : ℕ → Entry → Bool
adds_handle h (entry.Take lane (item.Up i)) = list_any (is_added_of h) (changes_told i)
adds_handle h _ = false

abbrev pub is_end_of_reset : Entry → Bool
is_end_of_reset entry.ResetDone = true
is_end_of_reset _ = false

-- ---- over the entries before

-- the host was told of the handle since the last `reset done`
abbrev pub IsTold : List Entry → ℕ → Type 0
IsTold before h = Lasts (λ e. adds_handle h e ≡ true) is_end_of_reset before

-- the handles that a request names: an abort's is that of the post of the identifier that it names
abbrev pub NamesTold : List Entry → HostAsk → Type 0
NamesTold before (ask.PageRead smid handle) = IsTold before handle
NamesTold before (ask.Remove handle) = IsTold before handle
NamesTold before (ask.Task handle task_type task_mid) = MatchBool (task_type == abort_task) (IsPostedTo before task_mid handle) (IsTold before handle)
NamesTold before _ = Unit {0}

-- each post is of a request that names such handles
abbrev pub PostsNameTold : List Entry → Type 0
PostsNameTold t =
    (before after : List Entry) (lane : LaneName) (descriptor : ℕ) (frame payload : List ℕ)
    → t ≡ before ++ entry.Put lane (item.Down (down.Post descriptor frame payload)) ∷ after
    → (request : HostAsk) × (frame ≡ message_frame (host_message request)) × NamesTold before request

-- ---- as a rule that goes over the entries

-- of which handles the host was told, and the handle of each identifier's last post
pub record HandlesTold : Type 0 where
  pub told : ℕ → Bool
  pub handle : ℕ → Option ℕ

abbrev pub no_handles_told : HandlesTold
no_handles_told = record { told = λ h. false; handle = λ s. None }

abbrev pub told_after : (ℕ → Bool) → Entry → ℕ → Bool
told_after told e h = if is_end_of_reset e then false else (adds_handle h e || told h)

abbrev pub handles_told_next : HandlesTold → Entry → HandlesTold
handles_told_next g e = record { told = told_after g.told e; handle = handle_posted g.handle (aimed_in_put e) }

abbrev pub NamesKnown : HandlesTold → HostAsk → Type 0
NamesKnown g (ask.PageRead smid handle) = g.told handle ≡ true
NamesKnown g (ask.Remove handle) = g.told handle ≡ true
NamesKnown g (ask.Task handle task_type task_mid) = MatchBool (task_type == abort_task) (g.handle task_mid ≡ Some handle) (g.told handle ≡ true)
NamesKnown g _ = Unit {0}

-- the frame is of a request that names such handles
pub record NamesHandles (g : HandlesTold) (frame : List ℕ) : Type 0 where
  pub request : HostAsk
  pub asked : frame ≡ message_frame (host_message request)
  pub names : NamesKnown g request

abbrev pub HandlesToldAsks : HandlesTold → Entry → Type 0
HandlesToldAsks g (entry.Put lane (item.Down (down.Post descriptor frame payload))) = NamesHandles g frame
HandlesToldAsks g _ = Unit {0}

abbrev pub HandlesToldPass : List Entry → Type 0
HandlesToldPass t = Passes handles_told_next HandlesToldAsks no_handles_told t
