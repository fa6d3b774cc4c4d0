-- Along a command's path: only a run makes it one that was run.
use Rattle.std.proofs.Common.{◌≡◌, ℕ, ◌==◌, Bool, true, false, if◌then◌else◌, List, [], ◌∷◌, ◌++◌, Option, Some, None, MatchOption, refl, ap, ◌∙◌, sym, subst, arith}
use Rattle.mpt_trace.specs.declared.entry.Entry.{Entry}
use Rattle.mpt_trace.specs.declared.entry.Entry.TheVariants as entry
use Rattle.mpt_trace.specs.declared.item.Item.{Item}
use Rattle.mpt_trace.specs.declared.item.Item.TheVariants as item
use Rattle.mpt_trace.specs.declared.item.Down.TheVariants as downward
use Rattle.mpt_trace.specs.declared.item.Up.TheVariants as upward
use Rattle.mpt_trace.specs.declared.item.Out.TheVariants as outward
use Rattle.mpt_trace.specs.declared.item.Back.TheVariants as backward
use Rattle.mpt_trace.specs.declared.outcome.Outcome.TheVariants as outcome
use Rattle.mpt_wire.specs.Messages.Naming.{AResult, NotThere, Says, Stopped, is_abort_of}
use Rattle.mpt_wire.specs.Paths.Commands.{Live, answer_mark, known_next, live_after, live_mark, mark_if, path_mark_of, put_mark, take_mark}
use Rattle.mpt_wire.specs.Paths.Stages.{PathStage, Accepted, AtController, AtDisk, HasGone, HasResult, HasRun, HasTerminated, Heard, Posted, Replied, SaysGone, SaysResult, SaysTerminated, Sent, MarkMayFollow, MayFollow, Walk, WalkAsks, stage_after, stage_if, walk_next}
use Rattle.mpt_wire.specs.Paths.Table.{PathMark, PutsPost, TakesPost, PutsTask, TakesTask, RunsAt, PutsResult, TakesResult, PutsGone, TakesGone, PutsTerminated, TakesTerminated, PutsReply, TakesReply, Answers, TakesAbort, IsAcceptedAgain}
use Rattle.mpt_wire.specs.Walks.Passes.{EachEntry, Passes, state_after}
use Rattle.law_outcomes.specs.Stages.{was_run}

-- neither an accept nor a run
abbrev pub IsDull : Entry → Type 0
IsDull (entry.Accept n address smid) = ⊥
IsDull (entry.Run address tag) = ⊥
IsDull e = Unit {0}

abbrev is_run_mark : PathMark → Bool
is_run_mark (RunsAt address) = true
is_run_mark m = false

abbrev NoRun : Option PathMark → Type 0
NoRun None = Unit {0}
NoRun (Some m) = is_run_mark m ≡ false

-- ---- the marks of an entry

marked : (b : Bool) (m : PathMark) → is_run_mark m ≡ false → NoRun (mark_if b m)
marked true m e = e
marked false m e = tt

put_no_run : (s : ℕ) (x : Item) → NoRun (put_mark s x)
put_no_run s (item.Down (downward.Post d f p)) = marked _ PutsPost refl
put_no_run s (item.Down (downward.Write reg value)) = tt
put_no_run s (item.Down (downward.Read reg)) = tt
put_no_run s (item.Down (downward.Return address index)) = tt
put_no_run s (item.Down downward.Stop) = tt
put_no_run s (item.Up (upward.Reply d f p x)) = marked _ (PutsReply _) refl
put_no_run s (item.Up (upward.Value value)) = tt
put_no_run s (item.Up (upward.Mark generation)) = tt
put_no_run s (item.Up upward.Calm) = tt
put_no_run s (item.Out (outward.Task tag address command)) = marked _ (PutsTask address command) refl
put_no_run s (item.Out (outward.Abort smid task)) = tt
put_no_run s (item.Out (outward.TargetReset smid address)) = tt
put_no_run s (item.Out outward.Discover) = tt
put_no_run s (item.Out (outward.Link generation)) = tt
put_no_run s (item.Out outward.Stop) = tt
put_no_run s (item.Back (backward.Result tag result)) = marked _ (PutsResult result) refl
put_no_run s (item.Back (backward.Gone tag)) = marked _ PutsGone refl
put_no_run s (item.Back (backward.Terminated tag)) = marked _ PutsTerminated refl
put_no_run s (item.Back (backward.Aborted smid found)) = tt
put_no_run s (item.Back (backward.Cleared smid count)) = tt
put_no_run s (item.Back (backward.Plugged address plug expander phy)) = tt
put_no_run s (item.Back (backward.Unplugged address plug expander phy)) = tt
put_no_run s (item.Back backward.Discovered) = tt
put_no_run s (item.Back (backward.Linked generation)) = tt
put_no_run s (item.Back backward.Calm) = tt
put_no_run s (item.Ask x) = tt
put_no_run s (item.Tell x) = tt

take_no_run : (s : ℕ) (x : Item) → NoRun (take_mark s x)
take_no_run s (item.Down (downward.Post d f p)) = marked _ TakesPost refl
take_no_run s (item.Down (downward.Write reg value)) = tt
take_no_run s (item.Down (downward.Read reg)) = tt
take_no_run s (item.Down (downward.Return address index)) = tt
take_no_run s (item.Down downward.Stop) = tt
take_no_run s (item.Up (upward.Reply d f p x)) = marked _ (TakesReply _) refl
take_no_run s (item.Up (upward.Value value)) = tt
take_no_run s (item.Up (upward.Mark generation)) = tt
take_no_run s (item.Up upward.Calm) = tt
take_no_run s (item.Out (outward.Task tag address command)) = marked _ (TakesTask address command) refl
take_no_run s (item.Out (outward.Abort smid task)) = tt
take_no_run s (item.Out (outward.TargetReset smid address)) = tt
take_no_run s (item.Out outward.Discover) = tt
take_no_run s (item.Out (outward.Link generation)) = tt
take_no_run s (item.Out outward.Stop) = tt
take_no_run s (item.Back (backward.Result tag result)) = marked _ (TakesResult result) refl
take_no_run s (item.Back (backward.Gone tag)) = marked _ TakesGone refl
take_no_run s (item.Back (backward.Terminated tag)) = marked _ TakesTerminated refl
take_no_run s (item.Back (backward.Aborted smid found)) = tt
take_no_run s (item.Back (backward.Cleared smid count)) = tt
take_no_run s (item.Back (backward.Plugged address plug expander phy)) = tt
take_no_run s (item.Back (backward.Unplugged address plug expander phy)) = tt
take_no_run s (item.Back backward.Discovered) = tt
take_no_run s (item.Back (backward.Linked generation)) = tt
take_no_run s (item.Back backward.Calm) = tt
take_no_run s (item.Ask x) = tt
take_no_run s (item.Tell x) = tt

no_run : (s : ℕ) (live : Option Live) (e : Entry) → IsDull e → NoRun (path_mark_of s live e)
no_run s live (entry.Put l x) d = put_no_run s x
no_run s live (entry.Take l x) d = by_test (is_abort_of s x) live
  where
    by_test : (b : Bool) (live : Option Live) → NoRun (if b then live_mark live TakesAbort else take_mark s x)
    by_test true None = tt
    by_test true (Some l) = refl
    by_test false live = take_no_run s x
no_run s live (entry.Run address tag) d = absurd d
no_run s live (entry.Accept n address smid) d = absurd d
no_run s None (entry.Answer n ending) d = tt
no_run s (Some l) (entry.Answer n ending) d = marked _ (Answers ending) refl
no_run s live (entry.Given i) d = tt
no_run s live (entry.Idle x) d = tt
no_run s live (entry.Bind handle address plug) d = tt
no_run s live (entry.Unbind handle) d = tt
no_run s live entry.UnbindAll d = tt
no_run s live entry.HostUp d = tt
no_run s live (entry.Ready address handle) d = tt
no_run s live (entry.Lost address handle) d = tt
no_run s live (entry.RefuseSubmit n cause) d = tt
no_run s live (entry.Refuse call cause) d = tt
no_run s live (entry.AbortEnd n how) d = tt
no_run s live (entry.TargetEnd address how) d = tt
no_run s live entry.ResetDone d = tt

-- ---- the stage behind a mark

-- a mark that may follow and is no run
run_stays : (l : Live) (b : Bool) (k : PathStage) (m : PathMark) → MayFollow l b k m → is_run_mark m ≡ false → was_run (stage_after k m) ≡ was_run k
run_stays l b k TakesAbort f e = refl
run_stays l b k (Answers ending) f e = refl
run_stays l b Accepted m f e = grind (arith, f, e)
run_stays l b Posted m f e = grind (arith, f, e)
run_stays l b AtController m f e = grind (arith, f, e)
run_stays l b Sent m f e = grind (arith, f, e)
run_stays l b AtDisk m f e = grind (arith, f, e)
run_stays l b HasRun m f e = grind (arith, f, e)
run_stays l b (SaysResult r) m f e = grind (arith, f, e)
run_stays l b (HasResult r) m f e = grind (arith, f, e)
run_stays l b SaysGone m f e = grind (arith, f, e)
run_stays l b HasGone m f e = grind (arith, f, e)
run_stays l b SaysTerminated m f e = grind (arith, f, e)
run_stays l b HasTerminated m f e = grind (arith, f, e)
run_stays l b (Replied says ending) m f e = grind (arith, f, e)
run_stays l b (Heard ending) m f e = grind (arith, f, e)

-- ---- over entries

known_before : (l : Live) (o : Option Live) (n : ℕ) → live_after o n ≡ Some l → o ≡ Some l
known_before l None n e = absurd (cc)
known_before l (Some k) n e = by_test (k.number == n) e
  where
    by_test : (b : Bool) → (if b then None else Some k) ≡ Some l → Some k ≡ Some l
    by_test true e = absurd (cc)
    by_test false e = e

before : (s : ℕ) (g : Walk) (e : Entry) (l : Live) → IsDull e → (walk_next s g e).known.live ≡ Some l → g.known.live ≡ Some l
before s g (entry.Answer n ending) l d e = known_before l g.known.live n e
before s g (entry.Accept n address smid) l d e = absurd d
before s g (entry.Run address tag) l d e = absurd d
before s g (entry.Given i) l d e = e
before s g (entry.Put lane x) l d e = e
before s g (entry.Take lane x) l d e = e
before s g (entry.Idle x) l d e = e
before s g (entry.Bind handle address plug) l d e = e
before s g (entry.Unbind handle) l d e = e
before s g entry.UnbindAll l d e = e
before s g entry.HostUp l d e = e
before s g (entry.Ready address handle) l d e = e
before s g (entry.Lost address handle) l d e = e
before s g (entry.RefuseSubmit n cause) l d e = e
before s g (entry.Refuse call cause) l d e = e
before s g (entry.AbortEnd n how) l d e = e
before s g (entry.TargetEnd address how) l d e = e
before s g entry.ResetDone l d e = e

led : (s : ℕ) (g : Walk) (e : Entry) → IsDull e → (walk_next s g e).stage ≡ stage_if g.stage (path_mark_of s g.known.live e)
led s g (entry.Accept n address smid) d = absurd d
led s g (entry.Run address tag) d = absurd d
led s g (entry.Answer n ending) d = refl
led s g (entry.Given i) d = refl
led s g (entry.Put lane x) d = refl
led s g (entry.Take lane x) d = refl
led s g (entry.Idle x) d = refl
led s g (entry.Bind handle address plug) d = refl
led s g (entry.Unbind handle) d = refl
led s g entry.UnbindAll d = refl
led s g entry.HostUp d = refl
led s g (entry.Ready address handle) d = refl
led s g (entry.Lost address handle) d = refl
led s g (entry.RefuseSubmit n cause) d = refl
led s g (entry.Refuse call cause) d = refl
led s g (entry.AbortEnd n how) d = refl
led s g (entry.TargetEnd address how) d = refl
led s g entry.ResetDone d = refl

entry_stays : (s : ℕ) (g : Walk) (e : Entry) (l : Live) → IsDull e → WalkAsks s g e → (walk_next s g e).known.live ≡ Some l → was_run (walk_next s g e).stage ≡ was_run g.stage
entry_stays s g e l d a z =
    ap was_run (led s g e d) ∙ by_mark (path_mark_of s g.known.live e) (no_run s g.known.live e d) (subst (λ o. MatchOption (path_mark_of s g.known.live e) (Unit {0}) (λ m. MarkMayFollow o g.stopped g.stage m)) (before s g e l d z) a)
  where
    by_mark : (o : Option PathMark) → NoRun o → MatchOption o (Unit {0}) (λ m. MarkMayFollow (Some l) g.stopped g.stage m) → was_run (stage_if g.stage o) ≡ was_run g.stage
    by_mark None n a = refl
    by_mark (Some m) n a = run_stays l g.stopped g.stage m a n

pub dull_live : (s : ℕ) (g : Walk) (t : List Entry) (l : Live) → EachEntry IsDull t → (state_after (walk_next s) g t).known.live ≡ Some l → g.known.live ≡ Some l
dull_live s g [] l d z = z
dull_live s g (e ∷ t) l d z = before s g e l d.0 (dull_live s (walk_next s g e) t l d.1 z)

pub dull_stage : (s : ℕ) (g : Walk) (t : List Entry) (l : Live) → EachEntry IsDull t → Passes (walk_next s) (WalkAsks s) g t → (state_after (walk_next s) g t).known.live ≡ Some l
    → was_run (state_after (walk_next s) g t).stage ≡ was_run g.stage
dull_stage s g [] l d p z = refl
dull_stage s g (e ∷ t) l d p z = dull_stage s (walk_next s g e) t l d.1 p.1 z ∙ entry_stays s g e l d.0 p.0 (dull_live s (walk_next s g e) t l d.1 z)
