-- The submitters, one after the other.
use Rattle.std.proofs.Common.{◌≡◌, ℕ, ◌+◌, List, [], ◌∷◌, ◌++◌, length, take, drop, sym, subst, arith}
use Rattle.std.proofs.Math.Seq.{take-append_seam}
use Rattle.std.specs.Prelude.{false}
use Rattle.std.specs.List.{AllZip}
use Rattle.mpt_trace.specs.declared.parties.Party.TheVariants as party
use Rattle.mpt_journal.specs.Journal.{HeldRow}
use Rattle.mpt_live.specs.Recorded.{LeadsTo, Recorded, submitter_enters}
use Rattle.mpt_live.specs.Submitters.{NumberedEnd}
use Rattle.live_journals.specs.Parties.{first_recorded}
use Rattle.live_session.specs.Left.{Begins, HasLed, HasRun, SubmittersBegin, SubmittersLeft, SubmittersRan}

-- one more behind those that begin
pub begin_more : (i n : ℕ) (ends : List NumberedEnd) (end : NumberedEnd) → n ≡ i + length ends → SubmittersBegin i ends → Begins n end → SubmittersBegin i (ends ++ end ∷ [])
begin_more i n [] end at h b = (subst (λ k. Begins k end) (omega (arith, at)) b, tt)
begin_more i n (e ∷ ends) end at h b = (h.0, begin_more (i + 1) n ends end (omega (arith, at)) h.1 b)

one_ran : (i : ℕ) (old new : NumberedEnd) → Begins i old → HasRun old new → new.is_spent ≡ false → LeadsTo (submitter_enters i) (first_recorded tt (party.Submitter i)) new.recorded
one_ran i old new b r spared =
    let from : LeadsTo (submitter_enters old.number) (first_recorded tt (party.Submitter i)) new.recorded = subst (λ (x : Recorded (Unit {0})). LeadsTo (submitter_enters old.number) x new.recorded) b.1 (r.led spared) in
    subst (λ k. LeadsTo (submitter_enters k) (first_recorded tt (party.Submitter i)) new.recorded) b.0 from

-- the work of each led it on from its beginning
pub all_ran : (i : ℕ) (olds news : List NumberedEnd) → SubmittersBegin i olds → AllZip HasRun olds news → SubmittersRan i news
all_ran i [] [] b r = tt
all_ran i [] (new ∷ news) b r = absurd r
all_ran i (old ∷ olds) [] b r = absurd r
all_ran i (old ∷ olds) (new ∷ news) b r = (λ spared. one_ran i old new b.0 r.0 spared, all_ran (i + 1) olds news b.1 r.1)

-- one journal more behind the others
pub left_more : (i n : ℕ) (journals : List HeldRow) (journal : HeldRow) → n ≡ i + length journals → SubmittersLeft i journals
    → HasLed (submitter_enters n) tt (party.Submitter n) tt journal.row → SubmittersLeft i (journals ++ journal ∷ [])
left_more i n [] journal at h led = (subst (λ k. HasLed (submitter_enters k) tt (party.Submitter k) tt journal.row) (omega (arith, at)) led, tt)
left_more i n (j ∷ journals) journal at h led = (h.0, left_more (i + 1) n journals journal (omega (arith, at)) h.1 led)

-- a submitter that was spared left its journal
pub one_left : (i : ℕ) (end : NumberedEnd) (journal : HeldRow) → end.is_spent ≡ false
    → (end.is_spent ≡ false → LeadsTo (submitter_enters i) (first_recorded tt (party.Submitter i)) end.recorded) → journal.row ≡ end.recorded.row
    → HasLed (submitter_enters i) tt (party.Submitter i) tt journal.row
one_left i end journal spared led row_is =
    record { clock = end.recorded.clock; led = subst (λ r. LeadsTo (submitter_enters i) (first_recorded tt (party.Submitter i)) (record { part = tt; row = r; clock = end.recorded.clock })) (sym row_is) (led spared) }

-- what was written over a whole list is all of it
pub written_whole : {X : Type 0} (old new : List X) (n : ℕ) → length new ≡ n → new ≡ take n (new ++ drop (length new) old)
written_whole old new n same = subst (λ k. new ≡ take k (new ++ drop (length new) old)) same (sym (take-append_seam new (drop (length new) old)))
