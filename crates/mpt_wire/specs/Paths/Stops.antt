-- The aborts of a command: one that took it out of the controller's queue says so, and only then.
use Rattle.std.specs.Prelude.{◌≡◌, ℕ, ◌+◌, ◌-◌, ◌<◌, ◌≤◌, ◌==◌, not, Bool, true, false, if◌then◌else◌, List, [], ◌∷◌, Option, Some, None}
use Rattle.std.specs.List.{cons_option, list_any}
use Rattle.mpt_trace.specs.declared.item.Down.TheVariants as down
use Rattle.mpt_trace.specs.declared.item.Up.TheVariants as up
use Rattle.mpt_trace.specs.declared.item.Out.TheVariants as out
use Rattle.mpt_trace.specs.declared.item.Item.{Item}
use Rattle.mpt_trace.specs.declared.item.Item.TheVariants as item
use Rattle.mpt_trace.specs.declared.entry.Entry.{Entry}
use Rattle.mpt_trace.specs.declared.entry.Entry.TheVariants as entry
use Rattle.mpt_wire.specs.Messages.Fields.{smid_in}
use Rattle.mpt_wire.specs.Messages.Naming.{Says, Stopped, is_abort_of, names_command, said_in}
use Rattle.mpt_wire.specs.Walks.Passes.{Passes}
use Rattle.mpt_wire.specs.Paths.TerminationCounts.{HighPost, NoPost, AnAbort, Progress, NotSent, count_of, high_next}
use Rattle.mpt_wire.specs.Queues.LeastFree.{is_accept_with}

-- what matters of a command for its aborts
pub data LifeMark : Type 0 where
  HasTask : LifeMark
  IsReplied : (said_in : Says) → LifeMark
  AbortIsPut : LifeMark
  -- the reply to an abort that names it is put; nothing was sent to the fabric for the abort, or something was
  AbortIsReplied : (sent : Bool) (count : ℕ) → LifeMark

abbrev pub is_post_sent : Progress → Bool
is_post_sent NotSent = false
is_post_sent _ = true

-- the reply to what is open under its identifier
abbrev pub abort_replied : ℕ → HighPost → ℕ → Option LifeMark
abort_replied s (AnAbort task p) count = if task == s then Some (AbortIsReplied (is_post_sent p) count) else None
abort_replied s _ count = None

-- what putting an item is to the command of s
abbrev pub life_mark_of : ℕ → (ℕ → HighPost) → Item → Option LifeMark
life_mark_of s highs (item.Out (out.Task tag address command)) = if tag == s then Some HasTask else None
life_mark_of s highs (item.Up (up.Reply descriptor frame page sense)) =
    if names_command s descriptor then Some (IsReplied (said_in frame)) else abort_replied s (highs (smid_in descriptor)) (count_of frame)
life_mark_of s highs (item.Down (down.Post descriptor frame payload)) = if is_abort_of s (item.Down (down.Post descriptor frame payload)) then Some AbortIsPut else None
life_mark_of s highs _ = None

abbrev pub life_mark : ℕ → (ℕ → HighPost) → Entry → Option LifeMark
life_mark s highs (entry.Put lane put) = life_mark_of s highs put
life_mark s highs _ = None

-- what is open under each identifier
abbrev pub highs_next : (ℕ → HighPost) → Entry → (ℕ → HighPost)
highs_next highs e q = high_next q (highs q) e

abbrev pub no_highs : ℕ → HighPost
no_highs q = NoPost

-- ---- the plain form: what matters from an accept of s to the next one

abbrev pub add_life : Option LifeMark → List (List LifeMark) → List (List LifeMark)
add_life m [] = []
add_life m (l ∷ ls) = cons_option m l ∷ ls

abbrev pub lives : ℕ → (ℕ → HighPost) → List Entry → List (List LifeMark)
lives s highs [] = [] ∷ []
lives s highs (e ∷ t) = if is_accept_with s e then [] ∷ lives s (highs_next highs e) t else add_life (life_mark s highs e) (lives s (highs_next highs e) t)

abbrev pub is_task : LifeMark → Bool
is_task HasTask = true
is_task _ = false

abbrev pub is_stopped : Says → Bool
is_stopped Stopped = true
is_stopped _ = false

-- a reply to the command that says that it was stopped, and one that says something else
abbrev pub is_stop : LifeMark → Bool
is_stop (IsReplied said) = is_stopped said
is_stop _ = false

abbrev pub is_other_reply : LifeMark → Bool
is_other_reply (IsReplied said) = not (is_stopped said)
is_other_reply _ = false

abbrev pub is_abort_put : LifeMark → Bool
is_abort_put AbortIsPut = true
is_abort_put _ = false

abbrev pub is_abort_reply : LifeMark → Bool
is_abort_reply (AbortIsReplied sent count) = true
is_abort_reply _ = false

-- the abort says that it took the command out of the queue
abbrev pub took_out : LifeMark → Bool
took_out (AbortIsReplied false count) = count == 1
took_out _ = false

-- how many of the marks pass the test
abbrev pub life_mark_count : (LifeMark → Bool) → List LifeMark → ℕ
life_mark_count test [] = 0
life_mark_count test (m ∷ marks) = (if test m then 1 else 0) + life_mark_count test marks

-- where an abort took the command out of the queue, it has no task, and each reply to it says that it was stopped
abbrev pub OutOfQueue : List LifeMark → Type 0
OutOfQueue marks = 0 < life_mark_count took_out marks → (list_any is_task marks ≡ false) × (list_any is_other_reply marks ≡ false)

-- it was stopped without a task
abbrev pub IsStoppedInQueue : List LifeMark → Type 0
IsStoppedInQueue marks = (list_any is_stop marks ≡ true) × (list_any is_task marks ≡ false)

-- once all its aborts are replied, exactly one took it out; and never more than one did
abbrev pub OneTookOut : List LifeMark → Type 0
OneTookOut marks =
    (life_mark_count took_out marks ≤ 1)
    × (IsStoppedInQueue marks → life_mark_count is_abort_put marks ≡ life_mark_count is_abort_reply marks → life_mark_count took_out marks ≡ 1)

abbrev pub EachLife : List (List LifeMark) → Type 0
EachLife [] = Unit {0}
EachLife (l ∷ ls) = OutOfQueue l × OneTookOut l × EachLife ls

abbrev pub StopsAreTold : ℕ → List Entry → Type 0
StopsAreTold s t = EachLife (lives s no_highs t)

-- ---- the walking form: the command's life so far

pub record StopLife : Type 0 where
  pub tasked : Bool
  -- a reply to it said that it was stopped, and one said something else
  pub stopped : Bool
  pub other : Bool
  -- how many of its aborts are put and not replied, and how many took it out of the queue
  pub waiting : ℕ
  pub taken_out : ℕ

abbrev pub new_life : StopLife
new_life = record { tasked = false; stopped = false; other = false; waiting = 0; taken_out = 0 }

abbrev pub life_with : StopLife → LifeMark → StopLife
life_with l HasTask = record l { tasked = true }
life_with l (IsReplied said) = if is_stopped said then record l { stopped = true } else record l { other = true }
life_with l AbortIsPut = record l { waiting = l.waiting + 1 }
life_with l (AbortIsReplied sent count) =
    record l { waiting = l.waiting - 1; taken_out = if took_out (AbortIsReplied sent count) then l.taken_out + 1 else l.taken_out }

abbrev pub life_after : StopLife → Option LifeMark → StopLife
life_after l None = l
life_after l (Some m) = life_with l m

pub record Stopping : Type 0 where
  pub highs : ℕ → HighPost
  pub life : StopLife

abbrev pub nothing_stopped : Stopping
nothing_stopped = record { highs = no_highs; life = new_life }

abbrev pub stopping_next : ℕ → Stopping → Entry → Stopping
stopping_next s g e = record { highs = highs_next g.highs e; life = if is_accept_with s e then new_life else life_after g.life (life_mark s g.highs e) }

pub record IsFair (l : StopLife) : Type 0 where
  pub at_most_one : l.taken_out ≤ 1
  pub no_task : 0 < l.taken_out → l.tasked ≡ false
  pub no_other : 0 < l.taken_out → l.other ≡ false
  pub one : l.stopped ≡ true → l.tasked ≡ false → l.waiting ≡ 0 → l.taken_out ≡ 1

-- the reply of an abort is awaited since the accept
abbrev pub IsAwaited : StopLife → Option LifeMark → Type 0
IsAwaited l (Some (AbortIsReplied sent count)) = 0 < l.waiting
IsAwaited l _ = Unit {0}

-- the life is fair after each entry
abbrev pub StopAsks : ℕ → Stopping → Entry → Type 0
StopAsks s g e = IsAwaited g.life (life_mark s g.highs e) × IsFair (stopping_next s g e).life

abbrev pub StopsPass : ℕ → List Entry → Type 0
StopsPass s t = Passes (stopping_next s) (StopAsks s) nothing_stopped t
