-- What walks along the stages is on a path of the table.
use Rattle.std.proofs.Common.{ℕ, ◌==◌, List, [], ◌∷◌, Bool, true, false, Option, Some, None, refl, if◌then◌else◌}
use Rattle.std.specs.Prelude.{MatchOption}
use Rattle.std.specs.List.{cons_option}
use Rattle.mpt_trace.specs.declared.item.Down.TheVariants as down
use Rattle.mpt_trace.specs.declared.item.Up.TheVariants as up
use Rattle.mpt_trace.specs.declared.item.Out.TheVariants as out
use Rattle.mpt_trace.specs.declared.item.Back.TheVariants as back
use Rattle.mpt_trace.specs.declared.item.Item.{Item}
use Rattle.mpt_trace.specs.declared.item.Item.TheVariants as item
use Rattle.mpt_trace.specs.declared.outcome.Outcome.{Outcome}
use Rattle.mpt_trace.specs.declared.entry.Entry.{Entry}
use Rattle.mpt_trace.specs.declared.entry.Entry.TheVariants as entry
use Rattle.mpt_wire.specs.Messages.Naming.{is_abort_of, names_command, said_in}
use Rattle.mpt_wire.specs.Walks.Passes.{Passes}
use Rattle.mpt_wire.specs.Paths.Table.{PathMark, PutsPost, TakesPost, PutsTask, TakesTask, RunsAt, PutsResult, TakesResult, PutsGone, TakesGone, PutsTerminated, TakesTerminated, PutsReply, TakesReply, Answers, TakesAbort, IsAcceptedAgain}
use Rattle.mpt_wire.specs.Paths.Commands.{Live, Parts, EachPart, PartIsOnTable, IsOnPaths, path_mark_of, mark_if, put_mark, take_mark, live_mark, answer_mark, live_after, known_next, add_mark, open_part, parts_from}
use Rattle.mpt_wire.specs.Paths.Stages.{PathStage, Accepted, Walk, walk_next, WalkAsks, WalksOnPaths, MarkMayFollow, stage_if, stopped_if, no_walk}
use Rattle.mpt_wire.proofs.PathSteps.{RestOf, IsInner, inner, ends, begins_with, never_again}

abbrev Asked : Option Live → Bool → PathStage → Option PathMark → Type 0
Asked l b k o = MatchOption o (Unit {0}) (λ m. MarkMayFollow l b k m)

by_mark : (l : Option Live) (b : Bool) (k : PathStage) (o : Option PathMark) (ms : List PathMark) → IsInner o → Asked l b k o → RestOf l (stopped_if b o) (stage_if k o) ms → RestOf l b k (cons_option o ms)
by_mark l b k None ms i a r = r
by_mark None b k (Some m) ms i a r = absurd a
by_mark (Some c) b k (Some m) ms i a r = inner c b k m ms i a r

pub inner_if : (b : Bool) (m : PathMark) → IsInner (Some m) → IsInner (mark_if b m)
inner_if true m i = i
inner_if false m i = tt

pub put_inner : (s : ℕ) (x : Item) → IsInner (put_mark s x)
put_inner s (item.Down (down.Post d f p)) = inner_if (names_command s d) PutsPost tt
put_inner s (item.Up (up.Reply d f p q)) = inner_if (names_command s d) (PutsReply (said_in f)) tt
put_inner s (item.Out (out.Task t a c)) = inner_if (t == s) (PutsTask a c) tt
put_inner s (item.Back (back.Result t r)) = inner_if (t == s) (PutsResult r) tt
put_inner s (item.Back (back.Gone t)) = inner_if (t == s) PutsGone tt
put_inner s (item.Back (back.Terminated t)) = inner_if (t == s) PutsTerminated tt
put_inner s x = tt

pub take_inner : (s : ℕ) (x : Item) → IsInner (take_mark s x)
take_inner s (item.Down (down.Post d f p)) = inner_if (names_command s d) TakesPost tt
take_inner s (item.Up (up.Reply d f p q)) = inner_if (names_command s d) (TakesReply (said_in f)) tt
take_inner s (item.Out (out.Task t a c)) = inner_if (t == s) (TakesTask a c) tt
take_inner s (item.Back (back.Result t r)) = inner_if (t == s) (TakesResult r) tt
take_inner s (item.Back (back.Gone t)) = inner_if (t == s) TakesGone tt
take_inner s (item.Back (back.Terminated t)) = inner_if (t == s) TakesTerminated tt
take_inner s x = tt

pub abort_inner : (l : Option Live) (b : Bool) (o : Option PathMark) → IsInner o → IsInner (if b then live_mark l TakesAbort else o)
abort_inner l false o i = i
abort_inner None true o i = tt
abort_inner (Some c) true o i = tt

-- the parts are as the walk allows from here on
abbrev PartsOf : Walk → Parts → Type 0
PartsOf g ps = RestOf g.known.live g.stopped g.stage ps.before × EachPart PartIsOnTable ps.parts

answered : (l : Option Live) (b : Bool) (k : PathStage) (n : ℕ) (o : Outcome) (ms : List PathMark) → Asked l b k (answer_mark l n o) → RestOf (live_after l n) (stopped_if b (answer_mark l n o)) (stage_if k (answer_mark l n o)) ms → RestOf l b k (cons_option (answer_mark l n o) ms)
answered None b k n o ms a r = r
answered (Some c) b k n o ms a r = by_test (c.number == n) a r
  where
    by_test : (x : Bool) → Asked (Some c) b k (mark_if x (Answers o)) → RestOf (if x then None else Some c) (stopped_if b (mark_if x (Answers o))) (stage_if k (mark_if x (Answers o))) ms → RestOf (Some c) b k (cons_option (mark_if x (Answers o)) ms)
    by_test false a r = r
    by_test true a r = ends c b k o ms a r

accepted : (s : ℕ) (g : Walk) (t : List Entry) (c : Live) (x : Bool)
    → Asked g.known.live g.stopped g.stage (if x then live_mark g.known.live IsAcceptedAgain else None)
    → PartsOf (record { known = if x then record g.known { live = Some c } else g.known; stage = if x then Accepted else stage_if g.stage (if x then live_mark g.known.live IsAcceptedAgain else None); stopped = if x then false else stopped_if g.stopped (if x then live_mark g.known.live IsAcceptedAgain else None) })
    (parts_from s (if x then record g.known { live = Some c } else g.known) t)
    → PartsOf g (add_mark (if x then live_mark g.known.live IsAcceptedAgain else None)
    (if x then open_part (if x then record g.known { live = Some c } else g.known).live (parts_from s (if x then record g.known { live = Some c } else g.known) t) else parts_from s (if x then record g.known { live = Some c } else g.known) t))
accepted s g t c false a h = h
accepted s g t c true a h = by_live g.known.live a h
  where
    by_live : (l : Option Live) → Asked l g.stopped g.stage (live_mark l IsAcceptedAgain)
        → PartsOf (record { known = record g.known { live = Some c }; stage = Accepted; stopped = false }) (parts_from s (record g.known { live = Some c }) t)
        → RestOf l g.stopped g.stage (cons_option (live_mark l IsAcceptedAgain) []) × EachPart PartIsOnTable (record { address = c.address; command = c.command; marks = (parts_from s (record g.known { live = Some c }) t).before } ∷ (parts_from s (record g.known { live = Some c }) t).parts)
    by_live None a h = (refl, h)
    by_live (Some d) a h = absurd (never_again d g.stopped g.stage a)

from_walk : (s : ℕ) (t : List Entry) (g : Walk) → Passes (walk_next s) (WalkAsks s) g t → PartsOf g (parts_from s g.known t)
from_walk s [] g p = (begins_with g.known.live g.stopped g.stage, tt)
from_walk s (entry.Put lane x ∷ t) g p =
    let h : PartsOf (walk_next s g (entry.Put lane x)) (parts_from s g.known t) = from_walk s t (walk_next s g (entry.Put lane x)) p.1
    in (by_mark g.known.live g.stopped g.stage (put_mark s x) (parts_from s g.known t).before (put_inner s x) p.0 h.0, h.1)
from_walk s (entry.Take lane x ∷ t) g p =
    let h : PartsOf (walk_next s g (entry.Take lane x)) (parts_from s g.known t) = from_walk s t (walk_next s g (entry.Take lane x)) p.1
    in (by_mark g.known.live g.stopped g.stage (path_mark_of s g.known.live (entry.Take lane x)) (parts_from s g.known t).before (abort_inner g.known.live (is_abort_of s x) (take_mark s x) (take_inner s x)) p.0 h.0, h.1)
from_walk s (entry.Run a q ∷ t) g p =
    let h : PartsOf (walk_next s g (entry.Run a q)) (parts_from s g.known t) = from_walk s t (walk_next s g (entry.Run a q)) p.1
    in (by_mark g.known.live g.stopped g.stage (mark_if (q == s) (RunsAt a)) (parts_from s g.known t).before (inner_if (q == s) (RunsAt a) tt) p.0 h.0, h.1)
from_walk s (entry.Accept n a q ∷ t) g p = accepted s g t (record { number = n; address = a; command = g.known.submitted }) (q == s) p.0 (from_walk s t (walk_next s g (entry.Accept n a q)) p.1)
from_walk s (entry.Answer n o ∷ t) g p =
    let h : PartsOf (walk_next s g (entry.Answer n o)) (parts_from s (known_next s g.known (entry.Answer n o)) t) = from_walk s t (walk_next s g (entry.Answer n o)) p.1
    in (answered g.known.live g.stopped g.stage n o (parts_from s (known_next s g.known (entry.Answer n o)) t).before p.0 h.0, h.1)
from_walk s (entry.Given x ∷ t) g p = from_walk s t (walk_next s g (entry.Given x)) p.1
from_walk s (_ ∷ t) g p = from_walk s t g p.1

-- a trace that walks along the stages is on the paths
pub on_paths : (s : ℕ) (t : List Entry) → WalksOnPaths s t → IsOnPaths s t
on_paths s t p = from_walk s t no_walk p
