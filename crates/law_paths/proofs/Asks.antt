-- What each entry asks of a command's path, where it names its identifier, and where it doesn't.
use Rattle.std.proofs.Common.{◌≡◌, ℕ, ◌==◌, Bool, true, false, if◌then◌else◌, List, [], ◌∷◌, Option, Some, None, refl, ap, sym, subst}
use Rattle.std.specs.Prelude.{MatchOption}
use Rattle.mpt_trace.specs.declared.entry.Entry.{Entry}
use Rattle.mpt_trace.specs.declared.entry.Entry.TheVariants as entry
use Rattle.mpt_trace.specs.declared.item.Back.TheVariants as back
use Rattle.mpt_trace.specs.declared.item.Down.TheVariants as down
use Rattle.mpt_trace.specs.declared.item.Item.{Item}
use Rattle.mpt_trace.specs.declared.item.Item.TheVariants as item
use Rattle.mpt_trace.specs.declared.item.Out.TheVariants as out
use Rattle.mpt_trace.specs.declared.item.Up.TheVariants as up
use Rattle.mpt_trace.specs.declared.outcome.Outcome.{Outcome}
use Rattle.mpt_trace.specs.declared.outcome.Outcome.TheVariants as ending
use Rattle.mpt_wire.specs.Messages.Naming.{AResult, NotThere, Says, Stopped, is_abort_of, names_command}
use Rattle.mpt_wire.specs.Paths.Commands.{Live, answer_mark, live_mark, mark_if, path_mark_of, put_mark, take_mark}
use Rattle.mpt_wire.specs.Paths.Stages.{MarkMayFollow, MayFollow, PathStage, Accepted, Posted, AtController, Sent, AtDisk, HasRun, SaysResult, HasResult, SaysGone, HasGone, SaysTerminated, HasTerminated, Replied, Heard, Walk, WalkAsks, walk_next}
use Rattle.mpt_wire.specs.Paths.Table.{Answers, PathMark, PutsReply, RunsAt, TakesAbort}
use Rattle.mpt_wire.specs.Walks.Passes.{EachEntry, Passes}
use Rattle.law_facts.specs.History.{History}
use Rattle.law_facts.specs.Paths.{MayReply}
use Rattle.law_paths.proofs.Entries.{equal, names, of_item, turned}

unmarked : (b : Bool) (m : PathMark) → b ≡ false → mark_if b m ≡ None
unmarked false m e = refl
unmarked true m e = absurd (cc)

put_none : (s : ℕ) (x : Item) → of_item s x ≡ false → put_mark s x ≡ None
put_none s (item.Down (down.Post d g p)) e = unmarked (names_command s d) _ e
put_none s (item.Down (down.Write reg value)) e = refl
put_none s (item.Down (down.Read reg)) e = refl
put_none s (item.Down (down.Return address index)) e = refl
put_none s (item.Down down.Stop) e = refl
put_none s (item.Up (up.Reply d g p q)) e = unmarked (names_command s d) _ e
put_none s (item.Up (up.Value value)) e = refl
put_none s (item.Up (up.Mark generation)) e = refl
put_none s (item.Up up.Calm) e = refl
put_none s (item.Out (out.Task tag a c)) e = unmarked (tag == s) _ (turned s tag e)
put_none s (item.Out (out.Abort q task)) e = refl
put_none s (item.Out (out.TargetReset q a)) e = refl
put_none s (item.Out out.Discover) e = refl
put_none s (item.Out (out.Link generation)) e = refl
put_none s (item.Out out.Stop) e = refl
put_none s (item.Back (back.Result tag r)) e = unmarked (tag == s) _ (turned s tag e)
put_none s (item.Back (back.Gone tag)) e = unmarked (tag == s) _ (turned s tag e)
put_none s (item.Back (back.Terminated tag)) e = unmarked (tag == s) _ (turned s tag e)
put_none s (item.Back (back.Aborted q found)) e = refl
put_none s (item.Back (back.Cleared q count)) e = refl
put_none s (item.Back (back.Plugged a p x y)) e = refl
put_none s (item.Back (back.Unplugged a p x y)) e = refl
put_none s (item.Back back.Discovered) e = refl
put_none s (item.Back (back.Linked generation)) e = refl
put_none s (item.Back back.Calm) e = refl
put_none s (item.Ask x) e = refl
put_none s (item.Tell x) e = refl

take_none : (s : ℕ) (x : Item) → of_item s x ≡ false → take_mark s x ≡ None
take_none s (item.Down (down.Post d g p)) e = unmarked (names_command s d) _ e
take_none s (item.Down (down.Write reg value)) e = refl
take_none s (item.Down (down.Read reg)) e = refl
take_none s (item.Down (down.Return address index)) e = refl
take_none s (item.Down down.Stop) e = refl
take_none s (item.Up (up.Reply d g p q)) e = unmarked (names_command s d) _ e
take_none s (item.Up (up.Value value)) e = refl
take_none s (item.Up (up.Mark generation)) e = refl
take_none s (item.Up up.Calm) e = refl
take_none s (item.Out (out.Task tag a c)) e = unmarked (tag == s) _ (turned s tag e)
take_none s (item.Out (out.Abort q task)) e = refl
take_none s (item.Out (out.TargetReset q a)) e = refl
take_none s (item.Out out.Discover) e = refl
take_none s (item.Out (out.Link generation)) e = refl
take_none s (item.Out out.Stop) e = refl
take_none s (item.Back (back.Result tag r)) e = unmarked (tag == s) _ (turned s tag e)
take_none s (item.Back (back.Gone tag)) e = unmarked (tag == s) _ (turned s tag e)
take_none s (item.Back (back.Terminated tag)) e = unmarked (tag == s) _ (turned s tag e)
take_none s (item.Back (back.Aborted q found)) e = refl
take_none s (item.Back (back.Cleared q count)) e = refl
take_none s (item.Back (back.Plugged a p x y)) e = refl
take_none s (item.Back (back.Unplugged a p x y)) e = refl
take_none s (item.Back back.Discovered) e = refl
take_none s (item.Back (back.Linked generation)) e = refl
take_none s (item.Back back.Calm) e = refl
take_none s (item.Ask x) e = refl
take_none s (item.Tell x) e = refl

-- where there is no mark nothing is asked
abbrev Asked : Walk → Option PathMark → Type 0
Asked g o = MatchOption o (Unit {0}) (λ m. MarkMayFollow g.known.live g.stopped g.stage m)

none_asked : (g : Walk) (o : Option PathMark) → o ≡ None → Asked g o
none_asked g o e = subst (Asked g) (sym e) tt

abort_asked : (g : Walk) (live : Option Live) → g.known.live ≡ live → (b : Bool) (o : Option PathMark) → o ≡ None → Asked g (if b then live_mark live TakesAbort else o)
abort_asked g None i true o e = tt
abort_asked g (Some c) i true o e = subst (λ l. MarkMayFollow l g.stopped g.stage TakesAbort) (sym i) tt
abort_asked g live i false o e = none_asked g o e

-- an entry that names it not, and answers nothing
abbrev pub IsNoAnswer : Entry → Type 0
IsNoAnswer (entry.Answer n how) = ⊥
IsNoAnswer e = Unit {0}

pub unnamed_free : (s : ℕ) (g : Walk) (e : Entry) → names s e ≡ false → IsNoAnswer e → WalkAsks s g e
unnamed_free s g (entry.Put l x) n a = none_asked g (put_mark s x) (put_none s x n)
unnamed_free s g (entry.Take l x) n a = abort_asked g g.known.live refl (is_abort_of s x) (take_mark s x) (take_none s x n)
unnamed_free s g (entry.Run address tag) n a = none_asked g (mark_if (tag == s) (RunsAt address)) (unmarked (tag == s) (RunsAt address) (turned s tag n))
unnamed_free s g (entry.Accept m address k) n a = none_asked g (if k == s then live_mark g.known.live Rattle.mpt_wire.specs.Paths.Table.IsAcceptedAgain else None) (ap (λ b. if b then live_mark g.known.live Rattle.mpt_wire.specs.Paths.Table.IsAcceptedAgain else None) (turned s k n))
unnamed_free s g (entry.Given i) n a = tt
unnamed_free s g (entry.Idle x) n a = tt
unnamed_free s g (entry.Bind handle address k) n a = tt
unnamed_free s g (entry.Unbind handle) n a = tt
unnamed_free s g entry.UnbindAll n a = tt
unnamed_free s g entry.HostUp n a = tt
unnamed_free s g (entry.Ready address handle) n a = tt
unnamed_free s g (entry.Lost address handle) n a = tt
unnamed_free s g (entry.RefuseSubmit m cause) n a = tt
unnamed_free s g (entry.Refuse call cause) n a = tt
unnamed_free s g (entry.Answer m how) n a = absurd a
unnamed_free s g (entry.AbortEnd m how) n a = tt
unnamed_free s g (entry.TargetEnd address how) n a = tt
unnamed_free s g entry.ResetDone n a = tt

-- an accept, where nothing is open
pub accept_asks : (s : ℕ) (g : Walk) (n a q : ℕ) → g.known.live ≡ None → WalkAsks s g (entry.Accept n a q)
accept_asks s g n a q e = by_live g.known.live e (q == s)
  where
    by_live : (o : Option Live) → o ≡ None → (b : Bool) → Asked g (if b then live_mark o Rattle.mpt_wire.specs.Paths.Table.IsAcceptedAgain else None)
    by_live None i true = tt
    by_live None i false = tt
    by_live (Some l) i b = absurd (cc)

-- one that may follow
pub named_asks : (q : ℕ) (g : Walk) (e : Entry) (m : PathMark) (l : Live) → path_mark_of q g.known.live e ≡ Some m → g.known.live ≡ Some l → MayFollow l g.stopped g.stage m → WalkAsks q g e
named_asks q g e m l i o a = subst (Asked g) (sym i) (subst (λ x. MarkMayFollow x g.stopped g.stage m) (sym o) a)

-- all identifiers, of which the entry names one
pub one_asks : (h : History) (q : ℕ) (e : Entry) → ((s : ℕ) → (s == q) ≡ false → names s e ≡ false) → IsNoAnswer e → WalkAsks q (h.walk q) e → (s : ℕ) → WalkAsks s (h.walk s) e
one_asks h q e n a w s = by_key (s == q) refl
  where
    by_key : (b : Bool) → (s == q) ≡ b → WalkAsks s (h.walk s) e
    by_key false t = unnamed_free s (h.walk s) e (n s t) a
    by_key true t = subst (λ j. WalkAsks j (h.walk j) e) (sym (equal s q t)) w

-- ---- words that follow

abbrev pub IsFree : Entry → Type 0
IsFree (entry.Put lane x) = ⊥
IsFree (entry.Take lane x) = ⊥
IsFree (entry.Run address tag) = ⊥
IsFree (entry.Accept n address smid) = ⊥
IsFree (entry.Answer n ending.Reset) = Unit {0}
IsFree (entry.Answer n how) = ⊥
IsFree e = Unit {0}

reset_asks : (g : Walk) (live : Option Live) → g.known.live ≡ live → (n : ℕ) → Asked g (answer_mark live n ending.Reset)
reset_asks g None i n = tt
reset_asks g (Some l) i n = by_number (l.number == n)
  where
    by_number : (b : Bool) → Asked g (mark_if b (Answers ending.Reset))
    by_number false = tt
    by_number true = subst (λ x. MarkMayFollow x g.stopped g.stage (Answers ending.Reset)) (sym i) tt

free_asks : (s : ℕ) (g : Walk) (e : Entry) → IsFree e → WalkAsks s g e
free_asks s g (entry.Answer n ending.Reset) a = reset_asks g g.known.live refl n
free_asks s g (entry.Answer n (ending.Done r)) a = absurd a
free_asks s g (entry.Answer n ending.Gone) a = absurd a
free_asks s g (entry.Answer n ending.Terminated) a = absurd a
free_asks s g (entry.Put l x) a = absurd a
free_asks s g (entry.Take l x) a = absurd a
free_asks s g (entry.Run address tag) a = absurd a
free_asks s g (entry.Accept m address k) a = absurd a
free_asks s g (entry.Given i) a = tt
free_asks s g (entry.Idle x) a = tt
free_asks s g (entry.Bind handle address k) a = tt
free_asks s g (entry.Unbind handle) a = tt
free_asks s g entry.UnbindAll a = tt
free_asks s g entry.HostUp a = tt
free_asks s g (entry.Ready address handle) a = tt
free_asks s g (entry.Lost address handle) a = tt
free_asks s g (entry.RefuseSubmit m cause) a = tt
free_asks s g (entry.Refuse call cause) a = tt
free_asks s g (entry.AbortEnd m how) a = tt
free_asks s g (entry.TargetEnd address how) a = tt
free_asks s g entry.ResetDone a = tt

pub free_pass : (s : ℕ) (g : Walk) (t : List Entry) → EachEntry IsFree t → Passes (walk_next s) (WalkAsks s) g t
free_pass s g [] a = tt
free_pass s g (e ∷ t) a = (free_asks s g e a.0, free_pass s (walk_next s g e) t a.1)

-- an answer that is that of what was heard
pub answer_asks : (g : Walk) (n : ℕ) (how : Outcome) → ((l : Live) → g.known.live ≡ Some l → (l.number == n) ≡ true → g.stage ≡ Heard how) → Asked g (answer_mark g.known.live n how)
answer_asks g n how f = by_live g.known.live refl
  where
    heard : (l : Live) (c : PathStage) → c ≡ Heard how → MayFollow l g.stopped c (Answers how)
    heard l c e = subst (λ x. MayFollow l g.stopped x (Answers how)) (sym e) (own how)
      where
        own : (x : Outcome) → MayFollow l g.stopped (Heard x) (Answers x)
        own ending.Reset = tt
        own ending.Gone = refl
        own ending.Terminated = refl
        own (ending.Done r) = refl

    by_live : (o : Option Live) → g.known.live ≡ o → Asked g (answer_mark o n how)
    by_live None i = tt
    by_live (Some l) i = by_number (l.number == n) refl
      where
        by_number : (b : Bool) → (l.number == n) ≡ b → Asked g (mark_if b (Answers how))
        by_number false t = tt
        by_number true t = subst (λ x. MarkMayFollow x g.stopped g.stage (Answers how)) (sym i) (heard l g.stage (f l i t))

-- a reply that may come may follow
pub may_put : (h : History) (s : ℕ) (l : Live) (a : Says) (c : PathStage) → MayReply h s a c → MayFollow l (h.walk s).stopped c (PutsReply a)
may_put h s l AResult Accepted m = absurd m
may_put h s l AResult Posted m = absurd m
may_put h s l AResult AtController m = absurd m
may_put h s l AResult Sent m = absurd m
may_put h s l AResult AtDisk m = absurd m
may_put h s l AResult HasRun m = absurd m
may_put h s l AResult (SaysResult x) m = absurd m
may_put h s l AResult (HasResult x) m = refl
may_put h s l AResult SaysGone m = absurd m
may_put h s l AResult HasGone m = absurd m
may_put h s l AResult SaysTerminated m = absurd m
may_put h s l AResult HasTerminated m = absurd m
may_put h s l AResult (Replied y z) m = absurd m
may_put h s l AResult (Heard z) m = absurd m
may_put h s l NotThere Accepted m = absurd m
may_put h s l NotThere Posted m = absurd m
may_put h s l NotThere AtController m = tt
may_put h s l NotThere Sent m = absurd m
may_put h s l NotThere AtDisk m = absurd m
may_put h s l NotThere HasRun m = absurd m
may_put h s l NotThere (SaysResult x) m = absurd m
may_put h s l NotThere (HasResult x) m = absurd m
may_put h s l NotThere SaysGone m = absurd m
may_put h s l NotThere HasGone m = refl
may_put h s l NotThere SaysTerminated m = absurd m
may_put h s l NotThere HasTerminated m = absurd m
may_put h s l NotThere (Replied y z) m = absurd m
may_put h s l NotThere (Heard z) m = absurd m
may_put h s l Stopped Accepted m = absurd m
may_put h s l Stopped Posted m = absurd m
may_put h s l Stopped AtController m = m
may_put h s l Stopped Sent m = absurd m
may_put h s l Stopped AtDisk m = absurd m
may_put h s l Stopped HasRun m = absurd m
may_put h s l Stopped (SaysResult x) m = absurd m
may_put h s l Stopped (HasResult x) m = absurd m
may_put h s l Stopped SaysGone m = absurd m
may_put h s l Stopped HasGone m = absurd m
may_put h s l Stopped SaysTerminated m = absurd m
may_put h s l Stopped HasTerminated m = refl
may_put h s l Stopped (Replied y z) m = absurd m
may_put h s l Stopped (Heard z) m = absurd m
