-- Replies that pass at the stages of their paths tell the results that were taken before them.
use Rattle.std.proofs.Common.{◌≡◌, ℕ, ◌==◌, List, [], ◌∷◌, ◌++◌, Bool, true, false, Option, Some, None, refl, sym, subst, if◌then◌else◌}
use Rattle.std.specs.Prelude.{MatchOption}
use Rattle.std.specs.Bool.{MatchBool}
use Rattle.scsi_disk.specs.declared.scsi_result.ScsiResult.{ScsiResult}
use Rattle.mpt_trace.specs.declared.item.Down.TheVariants as down
use Rattle.mpt_trace.specs.declared.item.Up.TheVariants as up
use Rattle.mpt_trace.specs.declared.item.Out.TheVariants as out
use Rattle.mpt_trace.specs.declared.item.Back.TheVariants as back
use Rattle.mpt_trace.specs.declared.item.Item.{Item}
use Rattle.mpt_trace.specs.declared.item.Item.TheVariants as item
use Rattle.mpt_trace.specs.declared.lane.LaneName.{LaneName}
use Rattle.mpt_trace.specs.declared.outcome.Outcome.{Outcome}
use Rattle.mpt_trace.specs.declared.entry.Entry.{Entry}
use Rattle.mpt_trace.specs.declared.entry.Entry.TheVariants as entry
use Rattle.mpt_wire.specs.Messages.Naming.{is_abort_of, names_command, said_in}
use Rattle.mpt_wire.specs.Walks.Passes.{Passes, state_after}
use Rattle.mpt_wire.specs.Paths.Table.{PathMark, PutsPost, TakesPost, PutsTask, TakesTask, RunsAt, PutsResult, TakesResult, PutsGone, TakesGone, PutsTerminated, TakesTerminated, PutsReply, TakesReply, Answers, TakesAbort, IsAcceptedAgain}
use Rattle.mpt_wire.specs.Paths.Commands.{Known, Live, path_mark_of, mark_if, put_mark, take_mark, live_mark, answer_mark, live_after, known_next}
use Rattle.mpt_wire.specs.Paths.Stages.{PathStage, Accepted, Posted, AtController, Sent, AtDisk, HasRun, SaysResult, HasResult, SaysGone, HasGone, SaysTerminated, HasTerminated, Replied, Heard, Walk, walk_next, WalkAsks, WalksOnPaths, MayFollow, MarkMayFollow, stage_after, stage_if, no_walk}
use Rattle.mpt_wire.specs.Paths.Replies.{RepliesAsk, RepliesPass, RepliesTell, TellsAt, TellsOf, result_next}
use Rattle.mpt_wire.proofs.PathSteps.{IsInner}
use Rattle.mpt_wire.proofs.Paths.{inner_if, put_inner, take_inner, abort_inner}

-- the result that was taken is the one of the stage
abbrev Agree : PathStage → Option ScsiResult → Type 0
Agree (HasResult r) o = o ≡ Some r
Agree (Replied said_in ending) o = Unit {0}
Agree (Heard ending) o = Unit {0}
Agree k o = o ≡ None

abbrev AgreeOf : Option Live → PathStage → Option ScsiResult → Type 0
AgreeOf None k o = Unit {0}
AgreeOf (Some c) k o = Agree k o

-- the result after a mark
abbrev result_after : Option ScsiResult → Option PathMark → Option ScsiResult
result_after o (Some (TakesResult r)) = Some r
result_after o m = o

agree_after : (c : Live) (b : Bool) (k : PathStage) (o : Option ScsiResult) (m : PathMark) → IsInner (Some m) → MayFollow c b k m → Agree k o → Agree (stage_after k m) (result_after o (Some m))
agree_after c b k o TakesAbort i a g = g
agree_after c b k o (Answers x) i a g = absurd i
agree_after c b Accepted o PutsPost i a g = g
agree_after c b Posted o TakesPost i a g = g
agree_after c b AtController o (PutsTask x y) i a g = g
agree_after c b AtController o (PutsReply x) i a g = tt
agree_after c b Sent o (TakesTask x y) i a g = g
agree_after c b AtDisk o (RunsAt x) i a g = g
agree_after c b AtDisk o PutsGone i a g = g
agree_after c b AtDisk o PutsTerminated i a g = g
agree_after c b HasRun o (PutsResult r) i a g = g
agree_after c b (SaysResult r) o (TakesResult x) i a g = refl
agree_after c b (HasResult r) o (PutsReply x) i a g = tt
agree_after c b SaysGone o TakesGone i a g = g
agree_after c b HasGone o (PutsReply x) i a g = tt
agree_after c b SaysTerminated o TakesTerminated i a g = g
agree_after c b HasTerminated o (PutsReply x) i a g = tt
agree_after c b (Replied x y) o (TakesReply z) i a g = tt
agree_after c b k o m i a g = absurd a

abbrev Asked : Option Live → Bool → PathStage → Option PathMark → Type 0
Asked l b k m = MatchOption m (Unit {0}) (λ x. MarkMayFollow l b k x)

agree_if : (l : Option Live) (b : Bool) (k : PathStage) (o : Option ScsiResult) (m : Option PathMark) → IsInner m → Asked l b k m → AgreeOf l k o → AgreeOf l (stage_if k m) (result_after o m)
agree_if None b k o m i a g = tt
agree_if (Some c) b k o None i a g = g
agree_if (Some c) b k o (Some m) i a g = agree_after c b k o m i a g

-- what a reply tells at a stage is what it tells of the result that was taken
tells : (s : ℕ) (c : Live) (b : Bool) (k : PathStage) (o : Option ScsiResult) (d : ℕ) (f : Option (List ℕ)) (p q : List ℕ) → MayFollow c b k (PutsReply (said_in f)) → Agree k o → TellsAt s (Some c) k d f p q → TellsOf s c.command o d f p q
tells s c b AtController o d f p q a g t = rw g t
tells s c b (HasResult r) o d f p q a g t = rw g t
tells s c b HasGone o d f p q a g t = rw g t
tells s c b HasTerminated o d f p q a g t = rw g t
tells s c b k o d f p q a g t = absurd a

-- ---- entries

abbrev IsNoResult : PathMark → Type 0
IsNoResult (TakesResult r) = ⊥
IsNoResult m = Unit {0}

kept : (o : Option ScsiResult) (m : PathMark) → IsNoResult m → o ≡ result_after o (Some m)
kept o (TakesResult r) i = absurd i
kept o m i = refl

kept_if : (b : Bool) (m : PathMark) (o : Option ScsiResult) → IsNoResult m → o ≡ result_after o (mark_if b m)
kept_if true m o i = kept o m i
kept_if false m o i = refl

result_put : (s : ℕ) (o : Option ScsiResult) (x : Item) → o ≡ result_after o (put_mark s x)
result_put s o (item.Down (down.Post d f p)) = kept_if (names_command s d) PutsPost o tt
result_put s o (item.Up (up.Reply d f p q)) = kept_if (names_command s d) (PutsReply (said_in f)) o tt
result_put s o (item.Out (out.Task t a c)) = kept_if (t == s) (PutsTask a c) o tt
result_put s o (item.Back (back.Result t r)) = kept_if (t == s) (PutsResult r) o tt
result_put s o (item.Back (back.Gone t)) = kept_if (t == s) PutsGone o tt
result_put s o (item.Back (back.Terminated t)) = kept_if (t == s) PutsTerminated o tt
result_put s o x = refl

abort_kept : (l : Option Live) (b : Bool) (o : Option ScsiResult) (m : Option PathMark) → o ≡ result_after o m → o ≡ result_after o (if b then live_mark l TakesAbort else m)
abort_kept l false o m e = e
abort_kept None true o m e = refl
abort_kept (Some c) true o m e = refl

result_took : (l : LaneName) (s : ℕ) (v : Option Live) (o : Option ScsiResult) (x : Item) → result_next s o (entry.Take l x) ≡ result_after o (path_mark_of s v (entry.Take l x))
result_took l s v o (item.Down (down.Post d f p)) = abort_kept v (is_abort_of s (item.Down (down.Post d f p))) o (mark_if (names_command s d) TakesPost) (kept_if (names_command s d) TakesPost o tt)
result_took l s v o (item.Up (up.Reply d f p q)) = kept_if (names_command s d) (TakesReply (said_in f)) o tt
result_took l s v o (item.Out (out.Task t a c)) = kept_if (t == s) (TakesTask a c) o tt
result_took l s v o (item.Back (back.Result t r)) = by_tag (t == s)
  where
    by_tag : (b : Bool) → (if b then Some r else o) ≡ result_after o (mark_if b (TakesResult r))
    by_tag true = refl
    by_tag false = refl
result_took l s v o (item.Back (back.Gone t)) = kept_if (t == s) TakesGone o tt
result_took l s v o (item.Back (back.Terminated t)) = kept_if (t == s) TakesTerminated o tt
result_took l s v o x = refl

answer_agrees : (l : Option Live) (k : PathStage) (o : Option ScsiResult) (n : ℕ) (x : Outcome) → AgreeOf l k o → AgreeOf (live_after l n) (stage_if k (answer_mark l n x)) o
answer_agrees None k o n x a = tt
answer_agrees (Some c) k o n x a = by_test (c.number == n)
  where
    by_test : (b : Bool) → AgreeOf (if b then None else Some c) (stage_if k (mark_if b (Answers x))) o
    by_test true = tt
    by_test false = a

accept_agrees : (b : Bool) (known : Known) (k : PathStage) (o : Option ScsiResult) (c : Live) → AgreeOf known.live k o
    → AgreeOf (if b then record known { live = Some c } else known).live (if b then Accepted else stage_if k (if b then live_mark known.live IsAcceptedAgain else None)) (if b then None else o)
accept_agrees true known k o c a = refl
accept_agrees false known k o c a = a

agree_step : (s : ℕ) (g : Walk) (o : Option ScsiResult) (e : Entry) → WalkAsks s g e → AgreeOf g.known.live g.stage o → AgreeOf (walk_next s g e).known.live (walk_next s g e).stage (result_next s o e)
agree_step s g o (entry.Put l x) w a =
    subst (λ (r : Option ScsiResult). AgreeOf g.known.live (stage_if g.stage (put_mark s x)) r) (sym (result_put s o x)) (agree_if g.known.live g.stopped g.stage o (put_mark s x) (put_inner s x) w a)
agree_step s g o (entry.Take l x) w a =
    subst (λ (r : Option ScsiResult). AgreeOf g.known.live (stage_if g.stage (path_mark_of s g.known.live (entry.Take l x))) r) (sym (result_took l s g.known.live o x)) (agree_if g.known.live g.stopped g.stage o (path_mark_of s g.known.live (entry.Take l x)) (abort_inner g.known.live (is_abort_of s x) (take_mark s x) (take_inner s x)) w a)
agree_step s g o (entry.Run d q) w a =
    subst (λ (r : Option ScsiResult). AgreeOf g.known.live (stage_if g.stage (mark_if (q == s) (RunsAt d))) r) (sym (kept_if (q == s) (RunsAt d) o tt)) (agree_if g.known.live g.stopped g.stage o (mark_if (q == s) (RunsAt d)) (inner_if (q == s) (RunsAt d) tt) w a)
agree_step s g o (entry.Accept n d q) w a = accept_agrees (q == s) g.known g.stage o (record { number = n; address = d; command = g.known.submitted }) a
agree_step s g o (entry.Answer n x) w a = answer_agrees g.known.live g.stage o n x a
agree_step s g o (entry.Given x) w a = a
agree_step s g o e w a = a

module _ (s : ℕ) (after : List Entry) (lane : LaneName) (d : ℕ) (f : Option (List ℕ)) (p q : List ℕ) (c : Live) where
  here : (x : Bool) (l : Option Live) (b : Bool) (k : PathStage) (o : Option ScsiResult) → Asked l b k (mark_if x (PutsReply (said_in f))) → MatchBool x (TellsAt s l k d f p q) (Unit {0}) → AgreeOf l k o → x ≡ true → l ≡ Some c → TellsOf s c.command o d f p q
  here false l b k o w t a named live = absurd (cc)
  here true None b k o w t a named live = absurd w
  here true (Some e) b k o w t a named live = subst (λ (y : Live). TellsOf s y.command o d f p q) same (tells s e b k o d f p q w a t)
    where
      same : e ≡ c
      same = cc

  go : (before : List Entry) (g : Walk) (o : Option ScsiResult) → AgreeOf g.known.live g.stage o
      → Passes (walk_next s) (WalkAsks s) g (before ++ entry.Put lane (item.Up (up.Reply d f p q)) ∷ after)
      → Passes (walk_next s) (RepliesAsk s) g (before ++ entry.Put lane (item.Up (up.Reply d f p q)) ∷ after)
      → names_command s d ≡ true → (state_after (known_next s) g.known before).live ≡ Some c → TellsOf s c.command (state_after (result_next s) o before) d f p q
  go [] g o a w r named live = here (names_command s d) g.known.live g.stopped g.stage o w.0 r.0 a named live
  go (e ∷ before) g o a w r named live = go before (walk_next s g e) (result_next s o e) (agree_step s g o e w.0 a) w.1 r.1 named live

-- a trace that passes tells each result as it was
pub replies_tell : (s : ℕ) (t : List Entry) → WalksOnPaths s t → RepliesPass s t → RepliesTell s t
replies_tell s t w r before after lane d f p q c split named live =
    go s after lane d f p q c before no_walk None tt
    (subst (λ (u : List Entry). Passes (walk_next s) (WalkAsks s) no_walk u) split w)
    (subst (λ (u : List Entry). Passes (walk_next s) (RepliesAsk s) no_walk u) split r)
    named live
