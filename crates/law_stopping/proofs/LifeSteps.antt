-- A command to which no reply was put has a task exactly where its path says so, entry by entry.
use Rattle.std.proofs.Common.{◌≡◌, ℕ, ◌==◌, ◌&&◌, nat_le, Bool, true, false, if◌then◌else◌, List, [], ◌∷◌, Option, Some, None, refl, ap, sym, ◌∙◌, subst, arith}
use Rattle.std.specs.Prelude.{MatchOption}
use Rattle.std.proofs.lemmas.Bool.{eqb-true}
use Rattle.scsi_disk.specs.declared.command.Command.{Command}
use Rattle.mpt_trace.specs.declared.entry.Entry.{Entry}
use Rattle.mpt_trace.specs.declared.entry.Entry.TheVariants as entry
use Rattle.mpt_trace.specs.declared.outcome.Outcome.TheVariants as outcome
use Rattle.mpt_trace.specs.declared.item.Back.{Back}
use Rattle.mpt_trace.specs.declared.item.Back.TheVariants as back
use Rattle.mpt_trace.specs.declared.item.Down.{Down}
use Rattle.mpt_trace.specs.declared.item.Down.TheVariants as downward
use Rattle.mpt_trace.specs.declared.item.Item.{Item}
use Rattle.mpt_trace.specs.declared.item.Item.TheVariants as item
use Rattle.mpt_trace.specs.declared.item.Out.{Out}
use Rattle.mpt_trace.specs.declared.item.Out.TheVariants as out
use Rattle.mpt_trace.specs.declared.item.Up.{Up}
use Rattle.mpt_trace.specs.declared.item.Up.TheVariants as upward
use Rattle.mpt_trace.specs.declared.lane.LaneName.{LaneName}
use Rattle.mpt_wire.specs.Messages.Fields.{smid_in}
use Rattle.mpt_wire.specs.Messages.Naming.{is_abort_of, names_command, said_in}
use Rattle.mpt_wire.specs.Paths.Commands.{Live, live_mark, answer_mark, mark_if, path_mark_of, put_mark, take_mark}
use Rattle.mpt_wire.specs.Paths.Stages.{Accepted, AtController, AtDisk, HasGone, HasResult, HasRun, HasTerminated, Heard, MarkMayFollow, MayFollow, PathStage, Posted, Replied, SaysGone, SaysResult, SaysTerminated, Sent, Walk, WalkAsks, stage_after, stage_if, walk_next}
use Rattle.mpt_wire.specs.Paths.Stops.{AbortIsPut, AbortIsReplied, HasTask, IsReplied, LifeMark, StopLife, Stopping, abort_replied, life_after, life_mark, life_mark_of, stopping_next}
use Rattle.mpt_wire.specs.Paths.Table.{Answers, IsAcceptedAgain, PathMark, PutsGone, PutsPost, PutsReply, PutsResult, PutsTask, PutsTerminated, RunsAt, TakesAbort, TakesGone, TakesPost, TakesReply, TakesResult, TakesTask, TakesTerminated}
use Rattle.mpt_wire.specs.Paths.TerminationCounts.{AReset, AnAbort, HighPost, NoPost}
use Rattle.mpt_wire.specs.Paths.TerminationCounts as count
use Rattle.mpt_wire.specs.Queues.LeastFree.{is_accept_with}
use Rattle.mpt_wire.specs.Walks.Passes.{EachEntry, Passes, state_after}
use Rattle.law_facts.specs.Paths.{has_task}
use Rattle.law_flights.proofs.HostQuiet.{IsQuiet}

-- no reply was put, and it has a task where its path says so
pub record HasLife (l : StopLife) (k : PathStage) : Type 0 where
  pub tasked : l.tasked ≡ has_task k
  pub stopped : l.stopped ≡ false
  pub other : l.other ≡ false

abbrev pub LifeOf : Stopping → Walk → Type 0
LifeOf g x = HasLife g.life x.stage

-- marks that change neither
abbrev pub IsSmall : Option LifeMark → Type 0
IsSmall None = Unit {0}
IsSmall (Some AbortIsPut) = Unit {0}
IsSmall (Some (AbortIsReplied sent n)) = Unit {0}
IsSmall (Some HasTask) = ⊥
IsSmall (Some (IsReplied says)) = ⊥

abbrev pub IsStep : Option PathMark → Type 0
IsStep None = Unit {0}
IsStep (Some (PutsTask address command)) = ⊥
IsStep (Some (PutsReply says)) = ⊥
IsStep (Some m) = Unit {0}

small_stays : (l : StopLife) (m : Option LifeMark) (k : PathStage) → IsSmall m → HasLife l k → HasLife (life_after l m) k
small_stays l None k i a = a
small_stays l (Some AbortIsPut) k i a = record { tasked = a.tasked; stopped = a.stopped; other = a.other }
small_stays l (Some (AbortIsReplied sent n)) k i a = record { tasked = a.tasked; stopped = a.stopped; other = a.other }
small_stays l (Some HasTask) k i a = absurd i
small_stays l (Some (IsReplied says)) k i a = absurd i

abort_same : (k : PathStage) → stage_after k TakesAbort ≡ k
abort_same Accepted = refl
abort_same Posted = refl
abort_same AtController = refl
abort_same Sent = refl
abort_same AtDisk = refl
abort_same HasRun = refl
abort_same (SaysResult r) = refl
abort_same (HasResult r) = refl
abort_same SaysGone = refl
abort_same HasGone = refl
abort_same SaysTerminated = refl
abort_same HasTerminated = refl
abort_same (Replied says e) = refl
abort_same (Heard e) = refl

reset_same : (k : PathStage) → stage_after k (Answers outcome.Reset) ≡ k
reset_same Accepted = refl
reset_same Posted = refl
reset_same AtController = refl
reset_same Sent = refl
reset_same AtDisk = refl
reset_same HasRun = refl
reset_same (SaysResult r) = refl
reset_same (HasResult r) = refl
reset_same SaysGone = refl
reset_same HasGone = refl
reset_same SaysTerminated = refl
reset_same HasTerminated = refl
reset_same (Replied says e) = refl
reset_same (Heard e) = refl

step_stays : (c : Live) (b : Bool) (k : PathStage) (m : PathMark) → IsStep (Some m) → MayFollow c b k m → has_task (stage_after k m) ≡ has_task k
step_stays c b k TakesAbort i a = ap has_task (abort_same k)
step_stays c b k (Answers outcome.Reset) i a = ap has_task (reset_same k)
step_stays c b Accepted PutsPost i a = refl
step_stays c b Posted TakesPost i a = refl
step_stays c b Sent (TakesTask address command) i a = refl
step_stays c b AtDisk (RunsAt address) i a = refl
step_stays c b AtDisk PutsGone i a = refl
step_stays c b AtDisk PutsTerminated i a = refl
step_stays c b HasRun (PutsResult result) i a = refl
step_stays c b (SaysResult result) (TakesResult taken) i a = refl
step_stays c b SaysGone TakesGone i a = refl
step_stays c b SaysTerminated TakesTerminated i a = refl
step_stays c b (Replied says ending) (TakesReply heard) i a = refl
step_stays c b (Heard ending) (Answers answered) i a = refl
step_stays c b k (PutsTask address command) i a = absurd i
step_stays c b k (PutsReply says) i a = absurd i
step_stays c b k m i a = absurd a

mark_stays : (o : Option Live) (b : Bool) (k : PathStage) (m : Option PathMark) → IsStep m → MatchOption m (Unit {0}) (λ n. MarkMayFollow o b k n) → has_task (stage_if k m) ≡ has_task k
mark_stays o b k None i a = refl
mark_stays None b k (Some m) i a = absurd a
mark_stays (Some c) b k (Some m) i a = step_stays c b k m i a

-- an entry that is no task and no reply to it
pub record IsCalm (s : ℕ) (e : Entry) : Type 0 where
  pub small : (highs : ℕ → HighPost) → IsSmall (life_mark s highs e)
  pub step : (live : Option Live) → IsStep (path_mark_of s live e)

new_has : HasLife Rattle.mpt_wire.specs.Paths.Stops.new_life Accepted
new_has = record { tasked = refl; stopped = refl; other = refl }

by_accept : (b : Bool) (l : StopLife) (k : PathStage) → HasLife l k → HasLife (if b then Rattle.mpt_wire.specs.Paths.Stops.new_life else l) (if b then Accepted else k)
by_accept true l k a = new_has
by_accept false l k a = a

pub calm_step : (s : ℕ) (g : Stopping) (x : Walk) (e : Entry) → IsCalm s e → WalkAsks s x e → LifeOf g x → LifeOf (stopping_next s g e) (walk_next s x e)
calm_step s g x e c a l =
    by_accept (is_accept_with s e) (life_after g.life (life_mark s g.highs e)) (stage_if x.stage (path_mark_of s x.known.live e))
    (small_stays g.life (life_mark s g.highs e) (stage_if x.stage (path_mark_of s x.known.live e)) (c.small g.highs)
    (record { tasked = l.tasked ∙ sym (mark_stays x.known.live x.stopped x.stage (path_mark_of s x.known.live e) (c.step x.known.live) a); stopped = l.stopped; other = l.other }))

pub calm_all : (s : ℕ) (g : Stopping) (x : Walk) (t : List Entry) → EachEntry (IsCalm s) t → Passes (walk_next s) (WalkAsks s) x t → LifeOf g x → LifeOf (state_after (stopping_next s) g t) (state_after (walk_next s) x t)
calm_all s g x [] c p l = l
calm_all s g x (e ∷ t) c p l = calm_all s (stopping_next s g e) (walk_next s x e) t c.1 p.1 (calm_step s g x e c.0 p.0 l)

-- behind an accept of it it is so whatever was before
pub accept_step : (s : ℕ) (g : Stopping) (x : Walk) (e : Entry) → is_accept_with s e ≡ true → LifeOf (stopping_next s g e) (walk_next s x e)
accept_step s g x e t =
    record {
      tasked = ap (λ b. (if b then Rattle.mpt_wire.specs.Paths.Stops.new_life else life_after g.life (life_mark s g.highs e)).tasked) t ∙ sym (ap (λ b. has_task (if b then Accepted else stage_if x.stage (path_mark_of s x.known.live e))) t);
      stopped = ap (λ b. (if b then Rattle.mpt_wire.specs.Paths.Stops.new_life else life_after g.life (life_mark s g.highs e)).stopped) t;
      other = ap (λ b. (if b then Rattle.mpt_wire.specs.Paths.Stops.new_life else life_after g.life (life_mark s g.highs e)).other) t;
    }

-- ---- which are calm

step_if : (b : Bool) (m : PathMark) → IsStep (Some m) → IsStep (mark_if b m)
step_if true m i = i
step_if false m i = tt

step_live : (live : Option Live) (m : PathMark) → IsStep (Some m) → IsStep (live_mark live m)
step_live None m i = tt
step_live (Some l) m i = i

step_answer : (live : Option Live) (n : ℕ) (o : Rattle.mpt_trace.specs.declared.outcome.Outcome.Outcome) → IsStep (answer_mark live n o)
step_answer None n o = tt
step_answer (Some l) n o = step_if (l.number == n) (Answers o) tt

step_accept : (b : Bool) (live : Option Live) → IsStep (if b then live_mark live IsAcceptedAgain else None)
step_accept true live = step_live live IsAcceptedAgain tt
step_accept false live = tt

quiet_calm : (s : ℕ) (e : Entry) → IsQuiet e → IsCalm s e
quiet_calm s (entry.Put l i) h = absurd h
quiet_calm s (entry.Take l i) h = absurd h
quiet_calm s (entry.Run address tag) h = record { small = λ g. tt; step = λ o. step_if (tag == s) (RunsAt address) tt }
quiet_calm s (entry.Accept n address smid) h = record { small = λ g. tt; step = λ o. step_accept (smid == s) o }
quiet_calm s (entry.Answer n how) h = record { small = λ g. tt; step = λ o. step_answer o n how }
quiet_calm s (entry.Given i) h = record { small = λ g. tt; step = λ o. tt }
quiet_calm s (entry.Idle x) h = record { small = λ g. tt; step = λ o. tt }
quiet_calm s (entry.Bind handle address plug) h = record { small = λ g. tt; step = λ o. tt }
quiet_calm s (entry.Unbind handle) h = record { small = λ g. tt; step = λ o. tt }
quiet_calm s entry.UnbindAll h = record { small = λ g. tt; step = λ o. tt }
quiet_calm s entry.HostUp h = record { small = λ g. tt; step = λ o. tt }
quiet_calm s (entry.Ready address handle) h = record { small = λ g. tt; step = λ o. tt }
quiet_calm s (entry.Lost address handle) h = record { small = λ g. tt; step = λ o. tt }
quiet_calm s (entry.RefuseSubmit n cause) h = record { small = λ g. tt; step = λ o. tt }
quiet_calm s (entry.Refuse call cause) h = record { small = λ g. tt; step = λ o. tt }
quiet_calm s (entry.AbortEnd n how) h = record { small = λ g. tt; step = λ o. tt }
quiet_calm s (entry.TargetEnd address how) h = record { small = λ g. tt; step = λ o. tt }
quiet_calm s entry.ResetDone h = record { small = λ g. tt; step = λ o. tt }

pub all_calm : (s : ℕ) (t : List Entry) → EachEntry IsQuiet t → EachEntry (IsCalm s) t
all_calm s [] h = tt
all_calm s (e ∷ t) h = (quiet_calm s e h.0, all_calm s t h.1)

take_step : (s : ℕ) (x : Item) → IsStep (take_mark s x)
take_step s (item.Down (downward.Post d g p)) = step_if (names_command s d) TakesPost tt
take_step s (item.Down (downward.Write reg value)) = tt
take_step s (item.Down (downward.Read reg)) = tt
take_step s (item.Down (downward.Return a i)) = tt
take_step s (item.Down downward.Stop) = tt
take_step s (item.Up (upward.Reply d g page sense)) = step_if (names_command s d) (TakesReply (said_in g)) tt
take_step s (item.Up (upward.Value value)) = tt
take_step s (item.Up (upward.Mark generation)) = tt
take_step s (item.Up upward.Calm) = tt
take_step s (item.Out (out.Task tag address command)) = step_if (tag == s) (TakesTask address command) tt
take_step s (item.Out (out.Abort smid task)) = tt
take_step s (item.Out (out.TargetReset smid address)) = tt
take_step s (item.Out out.Discover) = tt
take_step s (item.Out (out.Link generation)) = tt
take_step s (item.Out out.Stop) = tt
take_step s (item.Back (back.Result tag r)) = step_if (tag == s) (TakesResult r) tt
take_step s (item.Back (back.Gone tag)) = step_if (tag == s) TakesGone tt
take_step s (item.Back (back.Terminated tag)) = step_if (tag == s) TakesTerminated tt
take_step s (item.Back (back.Aborted smid found)) = tt
take_step s (item.Back (back.Cleared smid n)) = tt
take_step s (item.Back (back.Plugged a p e f)) = tt
take_step s (item.Back (back.Unplugged a p e f)) = tt
take_step s (item.Back back.Discovered) = tt
take_step s (item.Back (back.Linked generation)) = tt
take_step s (item.Back back.Calm) = tt
take_step s (item.Ask x) = tt
take_step s (item.Tell x) = tt

take_if : (b : Bool) (s : ℕ) (live : Option Live) (x : Item) → IsStep (if b then live_mark live TakesAbort else take_mark s x)
take_if true s live x = step_live live TakesAbort tt
take_if false s live x = take_step s x

pub take_calm : (s : ℕ) (l : LaneName) (x : Item) → IsCalm s (entry.Take l x)
take_calm s l x = record { small = λ g. tt; step = λ o. take_if (is_abort_of s x) s o x }

small_if : (b : Bool) (m : LifeMark) → IsSmall (Some m) → IsSmall (if b then Some m else None)
small_if true m i = i
small_if false m i = tt

pub down_calm : (s : ℕ) (l : LaneName) (x : Down) → IsCalm s (entry.Put l (item.Down x))
down_calm s l (downward.Post d g p) = record { small = λ h. small_if (is_abort_of s (item.Down (downward.Post d g p))) AbortIsPut tt; step = λ o. step_if (names_command s d) PutsPost tt }
down_calm s l (downward.Write reg value) = record { small = λ h. tt; step = λ o. tt }
down_calm s l (downward.Read reg) = record { small = λ h. tt; step = λ o. tt }
down_calm s l (downward.Return a i) = record { small = λ h. tt; step = λ o. tt }
down_calm s l downward.Stop = record { small = λ h. tt; step = λ o. tt }

pub back_calm : (s : ℕ) (l : LaneName) (x : Back) → IsCalm s (entry.Put l (item.Back x))
back_calm s l (back.Result tag r) = record { small = λ h. tt; step = λ o. step_if (tag == s) (PutsResult r) tt }
back_calm s l (back.Gone tag) = record { small = λ h. tt; step = λ o. step_if (tag == s) PutsGone tt }
back_calm s l (back.Terminated tag) = record { small = λ h. tt; step = λ o. step_if (tag == s) PutsTerminated tt }
back_calm s l (back.Aborted smid found) = record { small = λ h. tt; step = λ o. tt }
back_calm s l (back.Cleared smid n) = record { small = λ h. tt; step = λ o. tt }
back_calm s l (back.Plugged a p e f) = record { small = λ h. tt; step = λ o. tt }
back_calm s l (back.Unplugged a p e f) = record { small = λ h. tt; step = λ o. tt }
back_calm s l back.Discovered = record { small = λ h. tt; step = λ o. tt }
back_calm s l (back.Linked generation) = record { small = λ h. tt; step = λ o. tt }
back_calm s l back.Calm = record { small = λ h. tt; step = λ o. tt }

-- an item for the fabric: where it is the command's task, it has one then
pub out_step : (s : ℕ) (l : LaneName) (x : Out) (g : Stopping) (y : Walk) → WalkAsks s y (entry.Put l (item.Out x)) → LifeOf g y → LifeOf (stopping_next s g (entry.Put l (item.Out x))) (walk_next s y (entry.Put l (item.Out x)))
out_step s l (out.Task tag address command) g y a z = by_key (tag == s) refl
  where
    by_key : (b : Bool) → (tag == s) ≡ b → LifeOf (stopping_next s g (entry.Put l (item.Out (out.Task tag address command)))) (walk_next s y (entry.Put l (item.Out (out.Task tag address command))))
    by_key false t =
        record {
          tasked = ap (λ b. (life_after g.life (if b then Some HasTask else None)).tasked) t ∙ (z.tasked ∙ sym (ap (λ b. has_task (stage_if y.stage (mark_if b (PutsTask address command)))) t));
          stopped = ap (λ b. (life_after g.life (if b then Some HasTask else None)).stopped) t ∙ z.stopped;
          other = ap (λ b. (life_after g.life (if b then Some HasTask else None)).other) t ∙ z.other;
        }
    by_key true t =
        record {
          tasked = ap (λ b. (life_after g.life (if b then Some HasTask else None)).tasked) t ∙ (sym (sent y.stage) ∙ sym (ap (λ b. has_task (stage_if y.stage (mark_if b (PutsTask address command)))) t));
          stopped = ap (λ b. (life_after g.life (if b then Some HasTask else None)).stopped) t ∙ z.stopped;
          other = ap (λ b. (life_after g.life (if b then Some HasTask else None)).other) t ∙ z.other;
        }
      where
        sent : (k : PathStage) → has_task (stage_after k (PutsTask address command)) ≡ true
        sent Accepted = refl
        sent Posted = refl
        sent AtController = refl
        sent Sent = refl
        sent AtDisk = refl
        sent HasRun = refl
        sent (SaysResult r) = refl
        sent (HasResult r) = refl
        sent SaysGone = refl
        sent HasGone = refl
        sent SaysTerminated = refl
        sent HasTerminated = refl
        sent (Replied says e) = refl
        sent (Heard e) = refl
out_step s l (out.Abort smid task) g y a z = calm_step s g y (entry.Put l (item.Out (out.Abort smid task))) (record { small = λ h. tt; step = λ o. tt }) a z
out_step s l (out.TargetReset smid address) g y a z = calm_step s g y (entry.Put l (item.Out (out.TargetReset smid address))) (record { small = λ h. tt; step = λ o. tt }) a z
out_step s l out.Discover g y a z = calm_step s g y (entry.Put l (item.Out out.Discover)) (record { small = λ h. tt; step = λ o. tt }) a z
out_step s l (out.Link generation) g y a z = calm_step s g y (entry.Put l (item.Out (out.Link generation))) (record { small = λ h. tt; step = λ o. tt }) a z
out_step s l out.Stop g y a z = calm_step s g y (entry.Put l (item.Out out.Stop)) (record { small = λ h. tt; step = λ o. tt }) a z

abort_small : (s : ℕ) (g : HighPost) (n : ℕ) → IsSmall (abort_replied s g n)
abort_small s (AnAbort task p) n = small_if (task == s) (AbortIsReplied (Rattle.mpt_wire.specs.Paths.Stops.is_post_sent p) n) tt
abort_small s (AReset p) n = tt
abort_small s NoPost n = tt
abort_small s count.Replied n = tt

-- a reply to something else
pub up_calm : (s : ℕ) (l : LaneName) (x : Up) → ((d : ℕ) (g : Option (List ℕ)) (page sense : List ℕ) → x ≡ upward.Reply d g page sense → names_command s d ≡ false) → IsCalm s (entry.Put l (item.Up x))
up_calm s l (upward.Reply d g page sense) n =
    record {
      small = λ h. subst (λ b. IsSmall (if b then Some (IsReplied (said_in g)) else abort_replied s (h (smid_in d)) (count.count_of g))) (sym (n d g page sense refl)) (abort_small s (h (smid_in d)) (count.count_of g));
      step = λ o. subst (λ b. IsStep (mark_if b (PutsReply (said_in g)))) (sym (n d g page sense refl)) tt;
    }
up_calm s l (upward.Value value) n = record { small = λ h. tt; step = λ o. tt }
up_calm s l (upward.Mark generation) n = record { small = λ h. tt; step = λ o. tt }
up_calm s l upward.Calm n = record { small = λ h. tt; step = λ o. tt }
