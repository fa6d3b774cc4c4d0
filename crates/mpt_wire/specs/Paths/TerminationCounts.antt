-- The counts of aborts and target resets: what the reply to a high priority post says that it stopped.
use Rattle.std.specs.Prelude.{◌≡◌, ℕ, ◌⊎◌, ◌==◌, Bool, if◌then◌else◌, List, [], ◌∷◌, Option, Some, None}
use Rattle.std.specs.Bool.{MatchBool}
use Rattle.std.specs.List.{cons_option}
use Rattle.mpt_trace.specs.declared.item.Down.TheVariants as down
use Rattle.mpt_trace.specs.declared.item.Up.TheVariants as up
use Rattle.mpt_trace.specs.declared.item.Out.TheVariants as out
use Rattle.mpt_trace.specs.declared.item.Back.TheVariants as back
use Rattle.mpt_trace.specs.declared.item.Item.TheVariants as item
use Rattle.mpt_trace.specs.declared.entry.Entry.{Entry}
use Rattle.mpt_trace.specs.declared.entry.Entry.TheVariants as entry
use Rattle.mpt_wire.specs.Messages.Fields.{smid_in, task_mid_in, termination_count_in}
use Rattle.mpt_wire.specs.Messages.Naming.{is_abort, is_target_reset_post}
use Rattle.mpt_wire.specs.Queues.Lanes.{IsPrefixOf}
use Rattle.mpt_wire.specs.Walks.Passes.{Passes}

-- how far an abort or a target reset is: nothing was sent to the fabric for it, or its item was put and what the
-- fabric counts is awaited, or that count was taken
pub data Progress : Type 0 where
  NotSent : Progress
  Awaited : Progress
  Counted : (count : ℕ) → Progress

-- what is open under a high priority identifier: an abort that names a command's identifier, or a target reset, or one
-- of these that was replied. Under another identifier there is none
pub data HighPost : Type 0 where
  NoPost : HighPost
  Replied : HighPost
  AnAbort : (task : ℕ) (progress : Progress) → HighPost
  AReset : (progress : Progress) → HighPost

-- what a post with this frame opens
abbrev pub opened_by : ℕ → List ℕ → HighPost
opened_by descriptor frame =
    if is_abort descriptor frame then AnAbort (task_mid_in frame) NotSent
    else (if is_target_reset_post descriptor frame then AReset NotSent else NoPost)

abbrev pub with_progress : Progress → HighPost → HighPost
with_progress p NoPost = NoPost
with_progress p Replied = Replied
with_progress p (AnAbort task q) = AnAbort task p
with_progress p (AReset q) = AReset p

-- the reply is put
abbrev pub closed : HighPost → HighPost
closed NoPost = NoPost
closed _ = Replied

-- `found` as a count
abbrev pub count_found : Bool → ℕ
count_found found = if found then 1 else 0

-- TerminationCount of a reply
abbrev pub count_of : Option (List ℕ) → ℕ
count_of None = 0
count_of (Some frame) = termination_count_in frame

abbrev pub high_next : ℕ → HighPost → Entry → HighPost
high_next q h (entry.Put lane (item.Down (down.Post descriptor frame payload))) = if smid_in descriptor == q then opened_by descriptor frame else h
high_next q h (entry.Put lane (item.Out (out.Abort smid task))) = if smid == q then with_progress Awaited h else h
high_next q h (entry.Put lane (item.Out (out.TargetReset smid address))) = if smid == q then with_progress Awaited h else h
high_next q h (entry.Take lane (item.Back (back.Aborted smid found))) = if smid == q then with_progress (Counted (count_found found)) h else h
high_next q h (entry.Take lane (item.Back (back.Cleared smid count))) = if smid == q then with_progress (Counted count) h else h
high_next q h (entry.Put lane (item.Up (up.Reply descriptor frame page sense))) = if smid_in descriptor == q then closed h else h
high_next q h _ = h

-- the abort's item was put
abbrev pub AbortIsAwaited : HighPost → Type 0
AbortIsAwaited (AnAbort task Awaited) = Unit {0}
AbortIsAwaited _ = ⊥

-- the count of a reply: that of the fabric where it was asked. Where nothing was sent it is 0, or 1 of an abort that
-- took the command out of the controller's queue
abbrev pub CountIs : HighPost → ℕ → Type 0
CountIs NoPost n = Unit {0}
CountIs Replied n = ⊥
CountIs (AnAbort task NotSent) n = (n ≡ 0) ⊎ (n ≡ 1)
CountIs (AReset NotSent) n = n ≡ 0
CountIs (AnAbort task Awaited) n = ⊥
CountIs (AReset Awaited) n = ⊥
CountIs (AnAbort task (Counted count)) n = n ≡ count
CountIs (AReset (Counted count)) n = n ≡ count

-- an item for the fabric is put once and for a post of its kind, and its count is taken after it
abbrev pub HighAsks : ℕ → HighPost → Entry → Type 0
HighAsks q h (entry.Put lane (item.Out (out.Abort smid task))) = MatchBool (smid == q) (h ≡ AnAbort task NotSent) (Unit {0})
HighAsks q h (entry.Put lane (item.Out (out.TargetReset smid address))) = MatchBool (smid == q) (h ≡ AReset NotSent) (Unit {0})
HighAsks q h (entry.Take lane (item.Back (back.Aborted smid found))) = MatchBool (smid == q) (AbortIsAwaited h) (Unit {0})
HighAsks q h (entry.Take lane (item.Back (back.Cleared smid count))) = MatchBool (smid == q) (h ≡ AReset Awaited) (Unit {0})
HighAsks q h (entry.Put lane (item.Up (up.Reply descriptor frame page sense))) = MatchBool (smid_in descriptor == q) (CountIs h (count_of frame)) (Unit {0})
HighAsks q h _ = Unit {0}

abbrev pub CountsPass : ℕ → List Entry → Type 0
CountsPass q t = Passes (high_next q) (HighAsks q) NoPost t

-- ---- the plain form: what happens to a post, from its putting to the next one of its identifier

pub data CountMark : Type 0 where
  Sends : CountMark
  Counts : (count : ℕ) → CountMark
  Replies : (count : ℕ) → CountMark

-- a post and what happened to it
pub record Counting : Type 0 where
  pub opened : HighPost
  pub marks : List CountMark

abbrev pub count_mark : ℕ → Entry → Option CountMark
count_mark q (entry.Put lane (item.Out (out.Abort smid task))) = if smid == q then Some Sends else None
count_mark q (entry.Put lane (item.Out (out.TargetReset smid address))) = if smid == q then Some Sends else None
count_mark q (entry.Take lane (item.Back (back.Aborted smid found))) = if smid == q then Some (Counts (count_found found)) else None
count_mark q (entry.Take lane (item.Back (back.Cleared smid count))) = if smid == q then Some (Counts count) else None
count_mark q (entry.Put lane (item.Up (up.Reply descriptor frame page sense))) = if smid_in descriptor == q then Some (Replies (count_of frame)) else None
count_mark q _ = None

-- what a put post opens, if the entry is one with this identifier
abbrev pub opens : ℕ → Entry → Option HighPost
opens q (entry.Put lane (item.Down (down.Post descriptor frame payload))) = if smid_in descriptor == q then Some (opened_by descriptor frame) else None
opens q _ = None

-- the posts with what happened to each; before the first post stands none
abbrev pub cut_at : Option HighPost → Option CountMark → List Counting → List Counting
cut_at (Some h) m [] = []
cut_at (Some h) m (c ∷ cs) = record { opened = NoPost; marks = [] } ∷ record c { opened = h } ∷ cs
cut_at None m [] = []
cut_at None m (c ∷ cs) = record c { marks = cons_option m c.marks } ∷ cs

abbrev pub countings : ℕ → List Entry → List Counting
countings q [] = record { opened = NoPost; marks = [] } ∷ []
countings q (e ∷ t) = cut_at (opens q e) (count_mark q e) (countings q t)

-- asked at the fabric, with its count
abbrev pub asked_fabric : ℕ → List CountMark
asked_fabric count = Sends ∷ Counts count ∷ Replies count ∷ []

-- what happens to a post: its item is put, its count taken, and its reply put with that count; or, where nothing is
-- sent, its reply is put, with 0, or with 1 of an abort that took its command out of the queue
abbrev pub IsCountedAs : HighPost → List CountMark → Type 0
IsCountedAs (AnAbort task p) marks = ((count : ℕ) × IsPrefixOf marks (asked_fabric count)) ⊎ (IsPrefixOf marks (Replies 0 ∷ []) ⊎ IsPrefixOf marks (Replies 1 ∷ []))
IsCountedAs (AReset p) marks = ((count : ℕ) × IsPrefixOf marks (asked_fabric count)) ⊎ IsPrefixOf marks (Replies 0 ∷ [])
IsCountedAs _ marks = Unit {0}

abbrev pub IsCounted : Counting → Type 0
IsCounted c = IsCountedAs c.opened c.marks

abbrev pub EachCounting : List Counting → Type 0
EachCounting [] = Unit {0}
EachCounting (c ∷ cs) = IsCounted c × EachCounting cs

-- each abort and each target reset of the identifier is counted so
abbrev pub AreCounted : ℕ → List Entry → Type 0
AreCounted q t = EachCounting (countings q t)
