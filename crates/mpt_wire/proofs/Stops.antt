-- What passes the rule of stops is told so in the plain form.
use Rattle.std.proofs.Common.{◌≡◌, ℕ, ◌+◌, List, [], ◌∷◌, Bool, true, false, Option, Some, None, refl, sym, arith, ◌∙◌, ◌||◌, if◌then◌else◌}
use Rattle.std.specs.List.{list_any}
use Rattle.mpt_trace.specs.declared.entry.Entry.{Entry}
use Rattle.mpt_wire.specs.Messages.Naming.{NotThere, Stopped, AResult}
use Rattle.mpt_wire.specs.Walks.Passes.{Passes}
use Rattle.mpt_wire.specs.Paths.Stops.{LifeMark, HasTask, IsReplied, AbortIsPut, AbortIsReplied, life_mark, highs_next, no_highs, add_life, lives, is_task, is_stop, is_other_reply, is_abort_put, is_abort_reply, took_out, life_mark_count, OutOfQueue, OneTookOut, EachLife, StopsAreTold, StopLife, new_life, life_with, life_after, Stopping, nothing_stopped, stopping_next, IsFair, IsAwaited, StopAsks, StopsPass}
use Rattle.mpt_wire.specs.Queues.LeastFree.{is_accept_with}

-- each mark may follow, and the life that they leave is fair
abbrev Good : StopLife → List LifeMark → Type 0
Good l [] = IsFair l
Good l (m ∷ ms) = IsAwaited l (Some m) × Good (life_with l m) ms

-- the life that the marks leave, by what is among them
record Left (l : StopLife) (ms : List LifeMark) : Type 0 where
  life : StopLife
  tasked : life.tasked ≡ (l.tasked || list_any is_task ms)
  stopped : life.stopped ≡ (l.stopped || list_any is_stop ms)
  other : life.other ≡ (l.other || list_any is_other_reply ms)
  waiting : life.waiting + life_mark_count is_abort_reply ms ≡ l.waiting + life_mark_count is_abort_put ms
  taken_out : life.taken_out ≡ l.taken_out + life_mark_count took_out ms
  fair : IsFair life

or_false : (a : Bool) → a ≡ (a || false)
or_false true = refl
or_false false = refl

or_true : (a b : Bool) → (true || b) ≡ (a || (true || b))
or_true true b = refl
or_true false b = refl

left : (l : StopLife) (ms : List LifeMark) → Good l ms → Left l ms
left l [] g = record { life = l; tasked = or_false l.tasked; stopped = or_false l.stopped; other = or_false l.other; waiting = omega arith; taken_out = omega arith; fair = g }
left l (HasTask ∷ ms) g =
    let k : Left (life_with l HasTask) ms = left (life_with l HasTask) ms g.1 in
    record { life = k.life; tasked = k.tasked ∙ or_true l.tasked (list_any is_task ms); stopped = k.stopped; other = k.other; waiting = omega (arith, k.waiting); taken_out = omega (arith, k.taken_out); fair = k.fair }
left l (IsReplied Stopped ∷ ms) g =
    let k : Left (life_with l (IsReplied Stopped)) ms = left (life_with l (IsReplied Stopped)) ms g.1 in
    record { life = k.life; tasked = k.tasked; stopped = k.stopped ∙ or_true l.stopped (list_any is_stop ms); other = k.other; waiting = omega (arith, k.waiting); taken_out = omega (arith, k.taken_out); fair = k.fair }
left l (IsReplied NotThere ∷ ms) g =
    let k : Left (life_with l (IsReplied NotThere)) ms = left (life_with l (IsReplied NotThere)) ms g.1 in
    record { life = k.life; tasked = k.tasked; stopped = k.stopped; other = k.other ∙ or_true l.other (list_any is_other_reply ms); waiting = omega (arith, k.waiting); taken_out = omega (arith, k.taken_out); fair = k.fair }
left l (IsReplied AResult ∷ ms) g =
    let k : Left (life_with l (IsReplied AResult)) ms = left (life_with l (IsReplied AResult)) ms g.1 in
    record { life = k.life; tasked = k.tasked; stopped = k.stopped; other = k.other ∙ or_true l.other (list_any is_other_reply ms); waiting = omega (arith, k.waiting); taken_out = omega (arith, k.taken_out); fair = k.fair }
left l (AbortIsPut ∷ ms) g =
    let k : Left (life_with l AbortIsPut) ms = left (life_with l AbortIsPut) ms g.1 in
    record { life = k.life; tasked = k.tasked; stopped = k.stopped; other = k.other; waiting = omega (arith, k.waiting); taken_out = omega (arith, k.taken_out); fair = k.fair }
left l (AbortIsReplied sent count ∷ ms) g =
    let k : Left (life_with l (AbortIsReplied sent count)) ms = left (life_with l (AbortIsReplied sent count)) ms g.1 in
    record { life = k.life; tasked = k.tasked; stopped = k.stopped; other = k.other; waiting = omega (arith, k.waiting, g.0); taken_out = by_took k.life.taken_out (life_mark_count took_out ms) (took_out (AbortIsReplied sent count)) k.taken_out; fair = k.fair }
  where
    by_took : (x n : ℕ) (b : Bool) → x ≡ (if b then l.taken_out + 1 else l.taken_out) + n → x ≡ l.taken_out + ((if b then 1 else 0) + n)
    by_took x n true e = omega (arith, e)
    by_took x n false e = omega (arith, e)

-- a life that is left from an accept on is told
told : (ms : List LifeMark) → Good new_life ms → OutOfQueue ms × OneTookOut ms
told ms g = by_left (left new_life ms g)
  where
    by_left : Left new_life ms → OutOfQueue ms × OneTookOut ms
    by_left k = (
      (λ some. (sym k.tasked ∙ k.fair.no_task (omega (arith, some, k.taken_out)), sym k.other ∙ k.fair.no_other (omega (arith, some, k.taken_out)))),
      (
        omega (arith, k.taken_out, k.fair.at_most_one),
        (λ q same. let one : k.life.taken_out ≡ 1 = k.fair.one (k.stopped ∙ q.0) (k.tasked ∙ q.1) (omega (arith, same, k.waiting)) in omega (arith, one, k.taken_out)),
      ),
    )

abbrev Parts : StopLife → List (List LifeMark) → Type 0
Parts l [] = ⊥
Parts l (ms ∷ rest) = Good l ms × EachLife rest

each : (ls : List (List LifeMark)) → Parts new_life ls → EachLife ls
each [] p = absurd p
each (ms ∷ rest) p = let k : OutOfQueue ms × OneTookOut ms = told ms p.0 in (k.0, k.1, p.1)

add : (l : StopLife) (m : Option LifeMark) (ls : List (List LifeMark)) → IsAwaited l m → Parts (life_after l m) ls → Parts l (add_life m ls)
add l m [] a p = absurd p
add l None (ms ∷ rest) a p = p
add l (Some m) (ms ∷ rest) a p = ((a, p.0), p.1)

parts : (s : ℕ) (t : List Entry) (g : Stopping) → IsFair g.life → Passes (stopping_next s) (StopAsks s) g t → Parts g.life (lives s g.highs t)
parts s [] g f p = (f, tt)
parts s (e ∷ t) g f p = by_test (is_accept_with s e) (parts s t (stopping_next s g e) p.0.1 p.1)
  where
    by_test : (b : Bool) → Parts (if b then new_life else life_after g.life (life_mark s g.highs e)) (lives s (highs_next g.highs e) t)
        → Parts g.life (if b then [] ∷ lives s (highs_next g.highs e) t else add_life (life_mark s g.highs e) (lives s (highs_next g.highs e) t))
    by_test true h = (f, each (lives s (highs_next g.highs e) t) h)
    by_test false h = add g.life (life_mark s g.highs e) (lives s (highs_next g.highs e) t) p.0.0 h

fair_at_first : IsFair new_life
fair_at_first = record { at_most_one = omega arith; no_task = λ h. refl; no_other = λ h. refl; one = λ a b c. absurd (cc) }

-- a trace that passes tells its stops
pub stops_are_told : (s : ℕ) (t : List Entry) → StopsPass s t → StopsAreTold s t
stops_are_told s t p = each (lives s no_highs t) (parts s t nothing_stopped fair_at_first p)
