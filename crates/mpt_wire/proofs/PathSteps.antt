-- What walks along the stages goes on along a path of the table: mark by mark.
use Rattle.std.proofs.Common.{◌≡◌, ◌⊎◌, inl, inr, List, [], ◌∷◌, Bool, true, false, Option, Some, None, refl, sym}
use Rattle.std.specs.Bool.{MatchBool}
use Rattle.scsi_disk.specs.declared.scsi_result.ScsiResult.{ScsiResult}
use Rattle.mpt_trace.specs.declared.outcome.Outcome.{Outcome}
use Rattle.mpt_trace.specs.declared.outcome.Outcome.TheVariants as outcome
use Rattle.mpt_wire.specs.Messages.Naming.{NotThere, Stopped, AResult, said_in}
use Rattle.mpt_wire.specs.Paths.Table.{PathMark, PutsPost, TakesPost, PutsTask, TakesTask, RunsAt, PutsResult, TakesResult, PutsGone, TakesGone, PutsTerminated, TakesTerminated, PutsReply, TakesReply, Answers, TakesAbort, IsAcceptedAgain, IsOn, AbortComesFirst, path_posted, path_sent, path_replied}
use Rattle.mpt_wire.specs.Paths.Commands.{Live}
use Rattle.mpt_wire.specs.Paths.Stages.{PathStage, Accepted, Posted, AtController, Sent, AtDisk, HasRun, SaysResult, HasResult, SaysGone, HasGone, SaysTerminated, HasTerminated, Replied, Heard, MayFollow, stage_after, stopped_if}

-- an abort came already, or comes first
abbrev pub Stop : Bool → List PathMark → Type 0
Stop b ms = MatchBool b (Unit {0}) (AbortComesFirst ms)

abbrev pub tail_done : Live → ScsiResult → List PathMark
tail_done c r = RunsAt c.address ∷ PutsResult r ∷ TakesResult r ∷ path_replied AResult (outcome.Done r)

abbrev pub tail_gone : List PathMark
tail_gone = PutsGone ∷ TakesGone ∷ path_replied NotThere outcome.Gone

abbrev pub tail_terminated : List PathMark
tail_terminated = PutsTerminated ∷ TakesTerminated ∷ path_replied Stopped outcome.Terminated

-- the paths that are left where the task may be
abbrev pub Three : Live → (List PathMark → List PathMark) → List PathMark → Type 0
Three c front ms = ((r : ScsiResult) × IsOn (front (tail_done c r)) ms) ⊎ (IsOn (front tail_gone) ms ⊎ IsOn (front tail_terminated) ms)

-- all five
abbrev pub Five : Live → Bool → (List PathMark → List PathMark) → List PathMark → Type 0
Five c b front ms =
    ((r : ScsiResult) × IsOn (front (path_sent c.address c.command (tail_done c r))) ms)
    ⊎ (IsOn (front (path_sent c.address c.command tail_gone)) ms
    ⊎ (IsOn (front (path_sent c.address c.command tail_terminated)) ms
    ⊎ (IsOn (front (path_replied NotThere outcome.Gone)) ms
    ⊎ (IsOn (front (path_replied Stopped outcome.Terminated)) ms × Stop b ms))))

-- what may follow from a stage on
abbrev pub Rest : Live → Bool → PathStage → List PathMark → Type 0
Rest c b Accepted ms = Five c b path_posted ms
Rest c b Posted ms = Five c b (λ x. TakesPost ∷ x) ms
Rest c b AtController ms = Five c b (λ x. x) ms
Rest c b Sent ms = Three c (λ x. TakesTask c.address c.command ∷ x) ms
Rest c b AtDisk ms = Three c (λ x. x) ms
Rest c b HasRun ms = (r : ScsiResult) × IsOn (PutsResult r ∷ TakesResult r ∷ path_replied AResult (outcome.Done r)) ms
Rest c b (SaysResult r) ms = IsOn (TakesResult r ∷ path_replied AResult (outcome.Done r)) ms
Rest c b (HasResult r) ms = IsOn (path_replied AResult (outcome.Done r)) ms
Rest c b SaysGone ms = IsOn (TakesGone ∷ path_replied NotThere outcome.Gone) ms
Rest c b HasGone ms = IsOn (path_replied NotThere outcome.Gone) ms
Rest c b SaysTerminated ms = IsOn (TakesTerminated ∷ path_replied Stopped outcome.Terminated) ms
Rest c b HasTerminated ms = IsOn (path_replied Stopped outcome.Terminated) ms
Rest c b (Replied said_in ending) ms = IsOn (TakesReply said_in ∷ Answers ending ∷ []) ms
Rest c b (Heard ending) ms = IsOn (Answers ending ∷ []) ms

abbrev pub RestOf : Option Live → Bool → PathStage → List PathMark → Type 0
RestOf None b k ms = ms ≡ []
RestOf (Some c) b k ms = Rest c b k ms

-- a mark that isn't an answer
abbrev pub IsInner : Option PathMark → Type 0
IsInner (Some (Answers ending)) = ⊥
IsInner _ = Unit {0}

-- the taking of an abort leaves what may follow
abort_taken : (c : Live) (b : Bool) (k : PathStage) (ms : List PathMark) → Rest c true k ms → Rest c b k (TakesAbort ∷ ms)
abort_taken c b Accepted ms r = five b r
  where
    five : (b : Bool) → Five c true path_posted ms → Five c b path_posted (TakesAbort ∷ ms)
    five b (inl r) = inl r
    five b (inr (inl r)) = inr (inl r)
    five b (inr (inr (inl r))) = inr (inr (inl r))
    five b (inr (inr (inr (inl r)))) = inr (inr (inr (inl r)))
    five true (inr (inr (inr (inr r)))) = inr (inr (inr (inr r)))
    five false (inr (inr (inr (inr r)))) = inr (inr (inr (inr r)))
abort_taken c b Posted ms r = five b r
  where
    five : (b : Bool) → Five c true (λ x. TakesPost ∷ x) ms → Five c b (λ x. TakesPost ∷ x) (TakesAbort ∷ ms)
    five b (inl r) = inl r
    five b (inr (inl r)) = inr (inl r)
    five b (inr (inr (inl r))) = inr (inr (inl r))
    five b (inr (inr (inr (inl r)))) = inr (inr (inr (inl r)))
    five true (inr (inr (inr (inr r)))) = inr (inr (inr (inr r)))
    five false (inr (inr (inr (inr r)))) = inr (inr (inr (inr r)))
abort_taken c b AtController ms r = five b r
  where
    five : (b : Bool) → Five c true (λ x. x) ms → Five c b (λ x. x) (TakesAbort ∷ ms)
    five b (inl r) = inl r
    five b (inr (inl r)) = inr (inl r)
    five b (inr (inr (inl r))) = inr (inr (inl r))
    five b (inr (inr (inr (inl r)))) = inr (inr (inr (inl r)))
    five true (inr (inr (inr (inr r)))) = inr (inr (inr (inr r)))
    five false (inr (inr (inr (inr r)))) = inr (inr (inr (inr r)))
abort_taken c b Sent ms r = r
abort_taken c b AtDisk ms r = r
abort_taken c b HasRun ms r = r
abort_taken c b (SaysResult x) ms r = r
abort_taken c b (HasResult x) ms r = r
abort_taken c b SaysGone ms r = r
abort_taken c b HasGone ms r = r
abort_taken c b SaysTerminated ms r = r
abort_taken c b HasTerminated ms r = r
abort_taken c b (Replied x y) ms r = r
abort_taken c b (Heard x) ms r = r

stopped_true : (b : Bool) (ms : List PathMark) → b ≡ true → Stop b (PutsReply Stopped ∷ ms)
stopped_true b ms e = rw e tt

-- a mark that may follow stands before what may follow it
pub inner : (c : Live) (b : Bool) (k : PathStage) (m : PathMark) (ms : List PathMark) → IsInner (Some m) → MayFollow c b k m → Rest c (stopped_if b (Some m)) (stage_after k m) ms → Rest c b k (m ∷ ms)
inner c b k TakesAbort ms i a r = abort_taken c b k ms r
inner c b k (Answers o) ms i a r = absurd i
inner c b Accepted PutsPost ms i a (inl r) = inl (r.0, (refl, r.1))
inner c b Accepted PutsPost ms i a (inr (inl r)) = inr (inl (refl, r))
inner c b Accepted PutsPost ms i a (inr (inr (inl r))) = inr (inr (inl (refl, r)))
inner c b Accepted PutsPost ms i a (inr (inr (inr (inl r)))) = inr (inr (inr (inl (refl, r))))
inner c b Accepted PutsPost ms i a (inr (inr (inr (inr r)))) = inr (inr (inr (inr ((refl, r.0), r.1))))
inner c b Posted TakesPost ms i a (inl r) = inl (r.0, (refl, r.1))
inner c b Posted TakesPost ms i a (inr (inl r)) = inr (inl (refl, r))
inner c b Posted TakesPost ms i a (inr (inr (inl r))) = inr (inr (inl (refl, r)))
inner c b Posted TakesPost ms i a (inr (inr (inr (inl r)))) = inr (inr (inr (inl (refl, r))))
inner c b Posted TakesPost ms i a (inr (inr (inr (inr r)))) = inr (inr (inr (inr ((refl, r.0), r.1))))
inner c b AtController (PutsTask x y) ms i a (inl r) = inl (r.0, (rw (a.0, a.1) refl, r.1))
inner c b AtController (PutsTask x y) ms i a (inr (inl r)) = inr (inl (rw (a.0, a.1) refl, r))
inner c b AtController (PutsTask x y) ms i a (inr (inr r)) = inr (inr (inl (rw (a.0, a.1) refl, r)))
inner c b AtController (PutsReply NotThere) ms i a r = inr (inr (inr (inl (refl, r))))
inner c b AtController (PutsReply Stopped) ms i a r = inr (inr (inr (inr ((refl, r), stopped_true b ms a))))
inner c b Sent (TakesTask x y) ms i a (inl r) = inl (r.0, (rw (a.0, a.1) refl, r.1))
inner c b Sent (TakesTask x y) ms i a (inr (inl r)) = inr (inl (rw (a.0, a.1) refl, r))
inner c b Sent (TakesTask x y) ms i a (inr (inr r)) = inr (inr (rw (a.0, a.1) refl, r))
inner c b AtDisk (RunsAt x) ms i a r = inl (r.0, (rw a refl, r.1))
inner c b AtDisk PutsGone ms i a r = inr (inl (refl, r))
inner c b AtDisk PutsTerminated ms i a r = inr (inr (refl, r))
inner c b HasRun (PutsResult x) ms i a r = (x, (refl, r))
inner c b (SaysResult x) (TakesResult y) ms i a r = rw a (refl, subst_result a r)
  where
    subst_result : y ≡ x → IsOn (path_replied AResult (outcome.Done y)) ms → IsOn (path_replied AResult (outcome.Done x)) ms
    subst_result e o = rw (sym e) o
inner c b (HasResult x) (PutsReply AResult) ms i a r = (refl, r)
inner c b (HasResult x) (PutsReply NotThere) ms i a r = absurd (cc)
inner c b (HasResult x) (PutsReply Stopped) ms i a r = absurd (cc)
inner c b SaysGone TakesGone ms i a r = (refl, r)
inner c b HasGone (PutsReply NotThere) ms i a r = (refl, r)
inner c b HasGone (PutsReply Stopped) ms i a r = absurd (cc)
inner c b HasGone (PutsReply AResult) ms i a r = absurd (cc)
inner c b SaysTerminated TakesTerminated ms i a r = (refl, r)
inner c b HasTerminated (PutsReply Stopped) ms i a r = (refl, r)
inner c b HasTerminated (PutsReply NotThere) ms i a r = absurd (cc)
inner c b HasTerminated (PutsReply AResult) ms i a r = absurd (cc)
inner c b (Replied x y) (TakesReply z) ms i a r = (rw a refl, r)
inner c b k m ms i a r = absurd a

-- nothing that names s is left
none_left : (path ms : List PathMark) → ms ≡ [] → IsOn path ms
none_left path ms e = rw e tt

-- an answer that may follow is the end
pub ends : (c : Live) (b : Bool) (k : PathStage) (o : Outcome) (ms : List PathMark) → MayFollow c b k (Answers o) → ms ≡ [] → Rest c b k (Answers o ∷ ms)
ends c b Accepted outcome.Reset ms a e = inr (inl e)
ends c b Posted outcome.Reset ms a e = inr (inl e)
ends c b AtController outcome.Reset ms a e = inr (inl e)
ends c b Sent outcome.Reset ms a e = inr (inl e)
ends c b AtDisk outcome.Reset ms a e = inr (inl e)
ends c b HasRun outcome.Reset ms a e = (record { status = 0; payload = []; sense = [] }, e)
ends c b (SaysResult x) outcome.Reset ms a e = e
ends c b (HasResult x) outcome.Reset ms a e = e
ends c b SaysGone outcome.Reset ms a e = e
ends c b HasGone outcome.Reset ms a e = e
ends c b SaysTerminated outcome.Reset ms a e = e
ends c b HasTerminated outcome.Reset ms a e = e
ends c b (Replied x y) outcome.Reset ms a e = e
ends c b (Heard x) outcome.Reset ms a e = e
ends c b (Heard x) (outcome.Done y) ms a e = (rw a refl, none_left [] ms e)
ends c b (Heard x) outcome.Gone ms a e = (rw a refl, none_left [] ms e)
ends c b (Heard x) outcome.Terminated ms a e = (rw a refl, none_left [] ms e)
ends c b k o ms a e = absurd a

begins : (c : Live) (b : Bool) (k : PathStage) → Rest c b k []
begins c b Accepted = inr (inl tt)
begins c b Posted = inr (inl tt)
begins c b AtController = inr (inl tt)
begins c b Sent = inr (inl tt)
begins c b AtDisk = inr (inl tt)
begins c b HasRun = (record { status = 0; payload = []; sense = [] }, tt)
begins c b (SaysResult x) = tt
begins c b (HasResult x) = tt
begins c b SaysGone = tt
begins c b HasGone = tt
begins c b SaysTerminated = tt
begins c b HasTerminated = tt
begins c b (Replied x y) = tt
begins c b (Heard x) = tt

pub begins_with : (l : Option Live) (b : Bool) (k : PathStage) → RestOf l b k []
begins_with None b k = refl
begins_with (Some c) b k = begins c b k

-- another accept under the identifier is on no path
pub never_again : (c : Live) (b : Bool) (k : PathStage) → MayFollow c b k IsAcceptedAgain → ⊥
never_again c b Accepted a = a
never_again c b Posted a = a
never_again c b AtController a = a
never_again c b Sent a = a
never_again c b AtDisk a = a
never_again c b HasRun a = a
never_again c b (SaysResult x) a = a
never_again c b (HasResult x) a = a
never_again c b SaysGone a = a
never_again c b HasGone a = a
never_again c b SaysTerminated a = a
never_again c b HasTerminated a = a
never_again c b (Replied x y) a = a
never_again c b (Heard x) a = a
