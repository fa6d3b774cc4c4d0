-- Entries that pass every rule, joined with entries that pass behind them, pass every rule.
use Rattle.std.proofs.Common.{◌≡◌, ℕ, Bool, false, List, [], ◌∷◌, ◌++◌, refl, sym, ap, subst, ◌∙◌}
use Rattle.mpt_trace.specs.declared.entry.Entry.{Entry}
use Rattle.mpt_wire.specs.Handles.Bindings.{bound_next}
use Rattle.mpt_wire.specs.Handles.Leaving.{LeaveAsks, leaving_next}
use Rattle.mpt_wire.specs.Handles.Pages.{PageAsks, PagedAsks, paged_next}
use Rattle.mpt_wire.specs.Handles.Plugs.{ServedAsks, served_next}
use Rattle.mpt_wire.specs.Handles.Removals.{UnbindAsks, removals_next}
use Rattle.mpt_wire.specs.Handles.Tasks.{Aiming, TaskAsks, aiming_next}
use Rattle.mpt_wire.specs.Machine.View.{SeenAsks, seen_next}
use Rattle.mpt_wire.specs.Messages.DoorbellWords.{DoorAsks, door_next}
use Rattle.mpt_wire.specs.Messages.Registers.{BellAsks, IndicesAsk, RingAsks, bell_next, indices_next, is_reset_write, is_unbind_all, ring_next}
use Rattle.mpt_wire.specs.Messages.Standing.{MessageAsks}
use Rattle.mpt_wire.specs.Messages.Told.{HearingAsks, hearing_next}
use Rattle.mpt_wire.specs.Paths.Replies.{RepliesAsk}
use Rattle.mpt_wire.specs.Paths.Stages.{WalkAsks, walk_next}
use Rattle.mpt_wire.specs.Paths.Stops.{StopAsks, stopping_next}
use Rattle.mpt_wire.specs.Paths.TerminationCounts.{HighAsks, high_next}
use Rattle.mpt_wire.specs.Queues.Frames.{frame_stage}
use Rattle.mpt_wire.specs.Queues.Identifiers.{ClassAsks, smid_stage}
use Rattle.mpt_wire.specs.Queues.LeastPosts.{GivingAsks, giving_next}
use Rattle.mpt_wire.specs.Queues.Marks.{MarkAsks, ReplyLaneAsks, marks_next}
use Rattle.mpt_wire.specs.Walks.Cycles.{TurnAsks, turn_next}
use Rattle.mpt_wire.specs.Walks.Passes.{Passes, state_after}
use Rattle.mpt_wire.proofs.Passing.{each_append, passes_append, state_after-append}
use Rattle.law_facts.specs.History.{History, history_after}
use Rattle.law_ties.specs.Shown.{ResetsUnbind}
use Rattle.law.specs.Passed.{Passed}
use Rattle.law.proofs.Untold.{Opens, giving_told, joined, seen_told}

-- the bindings among what tasks are aimed by
aimed_bound : (g : Aiming) (t : List Entry) → (state_after aiming_next g t).bound ≡ state_after bound_next g.bound t
aimed_bound g [] = refl
aimed_bound g (e ∷ t) = aimed_bound (aiming_next g e) t

pub nothing_passes : (q : ℕ) (h : History) → Passed q h []
nothing_passes q h = record {
  identifiers = λ s n. tt;
  classes = tt;
  frames = λ address. tt;
  served = tt;
  unbinds = tt;
  leaving = λ handle. tt;
  pages = tt;
  posts = tt;
  tasks = tt;
  messages = tt;
  doorbell = tt;
  walks = λ s. tt;
  tells = λ s. tt;
  counts = λ s. tt;
  stops = λ s. tt;
  lanes = tt;
  marks = λ queue a b. tt;
  told = tt;
  resets = record { passes = tt; done = refl };
  indices = tt;
  ring = tt;
  bell = tt;
  given = tt;
  machine = tt;
}

resets_joined : (t u : List Entry) → ResetsUnbind t → ResetsUnbind u → ResetsUnbind (t ++ u)
resets_joined t u a b = record {
  passes = passes_append next asks false t u a.passes (subst (λ (due : Bool). Passes next asks due u) (sym a.done) b.passes);
  done = state_after-append next false t u ∙ ap (λ (due : Bool). state_after next due u) a.done ∙ b.done;
}
  where
    next : Bool → Entry → Bool
    next due e = is_reset_write e

    asks : Bool → Entry → Type 0
    asks due e = is_unbind_all e ≡ due

pub passed_joined : (q : ℕ) (h : History) (t u : List Entry) → Opens u → Passed q h t → Passed q (history_after h t) u → Passed q h (t ++ u)
passed_joined q h t u o a b = record {
  identifiers = λ s n. passes_append (turn_next (smid_stage s)) (TurnAsks (smid_stage s)) (h.turn s) t u (a.identifiers s n) (b.identifiers s n);
  classes = each_append ClassAsks t u a.classes b.classes;
  frames = λ address. passes_append (turn_next (frame_stage address)) (TurnAsks (frame_stage address)) (h.frame_turn address) t u (a.frames address) (b.frames address);
  served = passes_append served_next ServedAsks h.serving t u a.served b.served;
  unbinds = passes_append removals_next UnbindAsks h.removals t u a.unbinds b.unbinds;
  leaving = λ handle. passes_append (leaving_next handle) (LeaveAsks handle) (h.leaving handle) t u (a.leaving handle) (b.leaving handle);
  pages = passes_append bound_next PageAsks h.aiming.bound t u a.pages (subst (λ g. Passes bound_next PageAsks g u) (aimed_bound h.aiming t) b.pages);
  posts = passes_append paged_next PagedAsks h.paged t u a.posts b.posts;
  tasks = passes_append aiming_next TaskAsks h.aiming t u a.tasks b.tasks;
  messages = each_append (MessageAsks q) t u a.messages b.messages;
  doorbell = passes_append door_next (DoorAsks q) h.door t u a.doorbell b.doorbell;
  walks = λ s. passes_append (walk_next s) (WalkAsks s) (h.walk s) t u (a.walks s) (b.walks s);
  tells = λ s. passes_append (walk_next s) (RepliesAsk s) (h.walk s) t u (a.tells s) (b.tells s);
  counts = λ s. passes_append (high_next s) (HighAsks s) (h.high s) t u (a.counts s) (b.counts s);
  stops = λ s. passes_append (stopping_next s) (StopAsks s) (h.stopping s) t u (a.stops s) (b.stops s);
  lanes = each_append (ReplyLaneAsks q) t u a.lanes b.lanes;
  marks = λ queue x y. passes_append (marks_next queue) (MarkAsks queue) (h.marking queue) t u (a.marks queue x y) (b.marks queue x y);
  told = passes_append hearing_next HearingAsks h.hearing t u a.told b.told;
  resets = resets_joined t u a.resets b.resets;
  indices = passes_append indices_next IndicesAsk h.indices t u a.indices b.indices;
  ring = passes_append ring_next RingAsks h.ring t u a.ring b.ring;
  bell = passes_append bell_next BellAsks h.bell t u a.bell b.bell;
  given = joined giving_next GivingAsks giving_told h.giving t u o a.given b.given;
  machine = joined seen_next SeenAsks seen_told (record { machine = h.machine; so_far = h.so_far }) t u o a.machine b.machine;
}
