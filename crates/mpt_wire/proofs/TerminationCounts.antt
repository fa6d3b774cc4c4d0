-- What passes the rule of counts is counted so in the plain form.
use Rattle.std.proofs.Common.{◌≡◌, ℕ, inl, inr, ◌==◌, List, [], ◌∷◌, Bool, true, false, Option, Some, None, refl, ap, if◌then◌else◌}
use Rattle.std.specs.Bool.{MatchBool}
use Rattle.mpt_trace.specs.declared.item.Down.TheVariants as down
use Rattle.mpt_trace.specs.declared.item.Up.TheVariants as up
use Rattle.mpt_trace.specs.declared.item.Out.TheVariants as out
use Rattle.mpt_trace.specs.declared.item.Back.TheVariants as back
use Rattle.mpt_trace.specs.declared.item.Item.TheVariants as item
use Rattle.mpt_trace.specs.declared.entry.Entry.{Entry}
use Rattle.mpt_trace.specs.declared.entry.Entry.TheVariants as entry
use Rattle.mpt_wire.specs.Messages.Fields.{smid_in, task_mid_in}
use Rattle.mpt_wire.specs.Queues.Lanes.{IsPrefixOf}
use Rattle.mpt_wire.specs.Messages.Naming.{is_abort, is_target_reset_post}
use Rattle.mpt_wire.specs.Walks.Passes.{Passes}
use Rattle.mpt_wire.specs.Paths.TerminationCounts.{NotSent, Awaited, Counted, HighPost, NoPost, Replied, AnAbort, AReset, opened_by, with_progress, closed, count_found, count_of, high_next, AbortIsAwaited, CountIs, HighAsks, CountsPass, CountMark, Sends, Counts, Replies, Counting, count_mark, opens, cut_at, countings, asked_fabric, IsCountedAs, EachCounting, AreCounted}

-- what may follow
abbrev Rest : HighPost → List CountMark → Type 0
Rest NoPost ms = Unit {0}
Rest Replied ms = ms ≡ []
Rest (AnAbort task NotSent) ms = IsCountedAs (AnAbort task NotSent) ms
Rest (AReset NotSent) ms = IsCountedAs (AReset NotSent) ms
Rest (AnAbort task Awaited) ms = (n : ℕ) × IsPrefixOf ms (Counts n ∷ Replies n ∷ [])
Rest (AReset Awaited) ms = (n : ℕ) × IsPrefixOf ms (Counts n ∷ Replies n ∷ [])
Rest (AnAbort task (Counted n)) ms = IsPrefixOf ms (Replies n ∷ [])
Rest (AReset (Counted n)) ms = IsPrefixOf ms (Replies n ∷ [])

nothing_yet : (h : HighPost) → Rest h []
nothing_yet NoPost = tt
nothing_yet Replied = refl
nothing_yet (AnAbort task NotSent) = inl (0, (asked_fabric 0, refl))
nothing_yet (AReset NotSent) = inl (0, (asked_fabric 0, refl))
nothing_yet (AnAbort task Awaited) = (0, (Counts 0 ∷ Replies 0 ∷ [], refl))
nothing_yet (AReset Awaited) = (0, (Counts 0 ∷ Replies 0 ∷ [], refl))
nothing_yet (AnAbort task (Counted n)) = (Replies n ∷ [], refl)
nothing_yet (AReset (Counted n)) = (Replies n ∷ [], refl)

-- one mark more
longer : (m : CountMark) (ms path : List CountMark) → IsPrefixOf ms path → IsPrefixOf (m ∷ ms) (m ∷ path)
longer m ms path p = (p.0, ap (λ (xs : List CountMark). m ∷ xs) p.1)

no_more : (ms : List CountMark) → ms ≡ [] → IsPrefixOf ms []
no_more ms e = rw e ([], refl)

abort_sent : (task : ℕ) (h : HighPost) (ms : List CountMark) → h ≡ AnAbort task NotSent → Rest (with_progress Awaited h) ms → Rest h (Sends ∷ ms)
abort_sent task (AnAbort t NotSent) ms e r = inl (r.0, longer Sends ms (Counts r.0 ∷ Replies r.0 ∷ []) r.1)
abort_sent task NoPost ms e r = absurd (cc)
abort_sent task Replied ms e r = absurd (cc)
abort_sent task (AReset p) ms e r = absurd (cc)
abort_sent task (AnAbort t Awaited) ms e r = absurd (cc)
abort_sent task (AnAbort t (Counted n)) ms e r = absurd (cc)

reset_sent : (h : HighPost) (ms : List CountMark) → h ≡ AReset NotSent → Rest (with_progress Awaited h) ms → Rest h (Sends ∷ ms)
reset_sent (AReset NotSent) ms e r = inl (r.0, longer Sends ms (Counts r.0 ∷ Replies r.0 ∷ []) r.1)
reset_sent NoPost ms e r = absurd (cc)
reset_sent Replied ms e r = absurd (cc)
reset_sent (AnAbort t p) ms e r = absurd (cc)
reset_sent (AReset Awaited) ms e r = absurd (cc)
reset_sent (AReset (Counted n)) ms e r = absurd (cc)

abort_counted : (n : ℕ) (h : HighPost) (ms : List CountMark) → AbortIsAwaited h → Rest (with_progress (Counted n) h) ms → Rest h (Counts n ∷ ms)
abort_counted n (AnAbort t Awaited) ms a r = (n, longer (Counts n) ms (Replies n ∷ []) r)
abort_counted n h ms a r = absurd a

reset_counted : (n : ℕ) (h : HighPost) (ms : List CountMark) → h ≡ AReset Awaited → Rest (with_progress (Counted n) h) ms → Rest h (Counts n ∷ ms)
reset_counted n (AReset Awaited) ms e r = (n, longer (Counts n) ms (Replies n ∷ []) r)
reset_counted n NoPost ms e r = absurd (cc)
reset_counted n Replied ms e r = absurd (cc)
reset_counted n (AnAbort t p) ms e r = absurd (cc)
reset_counted n (AReset NotSent) ms e r = absurd (cc)
reset_counted n (AReset (Counted m)) ms e r = absurd (cc)

last_reply : (n m : ℕ) (ms : List CountMark) → n ≡ m → ms ≡ [] → IsPrefixOf (Replies n ∷ ms) (Replies m ∷ [])
last_reply n m ms e r = rw e (longer (Replies m) ms [] (no_more ms r))

replied : (n : ℕ) (h : HighPost) (ms : List CountMark) → CountIs h n → Rest (closed h) ms → Rest h (Replies n ∷ ms)
replied n NoPost ms a r = tt
replied n Replied ms a r = absurd a
replied n (AnAbort t NotSent) ms (inl e) r = inr (inl (last_reply n 0 ms e r))
replied n (AnAbort t NotSent) ms (inr e) r = inr (inr (last_reply n 1 ms e r))
replied n (AReset NotSent) ms a r = inr (last_reply n 0 ms a r)
replied n (AnAbort t Awaited) ms a r = absurd a
replied n (AReset Awaited) ms a r = absurd a
replied n (AnAbort t (Counted m)) ms a r = last_reply n m ms a r
replied n (AReset (Counted m)) ms a r = last_reply n m ms a r

-- what a post opens
opened_counts : (d : ℕ) (f : List ℕ) (ms : List CountMark) → Rest (opened_by d f) ms → IsCountedAs (opened_by d f) ms
opened_counts d f ms r = by_tests (is_abort d f) (is_target_reset_post d f) r
  where
    by_tests : (a b : Bool) → Rest (if a then AnAbort (task_mid_in f) NotSent else (if b then AReset NotSent else NoPost)) ms → IsCountedAs (if a then AnAbort (task_mid_in f) NotSent else (if b then AReset NotSent else NoPost)) ms
    by_tests true b r = r
    by_tests false true r = r
    by_tests false false r = tt

abbrev Parts : HighPost → List Counting → Type 0
Parts h [] = ⊥
Parts h (c ∷ cs) = Rest h c.marks × EachCounting cs

-- a mark that may follow
marked : (h h2 : HighPost) (m : CountMark) (x : Bool) (cs : List Counting) → ((ms : List CountMark) → MatchBool x (Rest h2 ms → Rest h (m ∷ ms)) (Unit {0})) → Parts (if x then h2 else h) cs → Parts h (cut_at None (if x then Some m else None) cs)
marked h h2 m x [] f p = absurd p
marked h h2 m true (c ∷ cs) f p = (f c.marks p.0, p.1)
marked h h2 m false (c ∷ cs) f p = p

unmarked : (h : HighPost) (cs : List Counting) → Parts h cs → Parts h (cut_at None None cs)
unmarked h [] p = p
unmarked h (c ∷ cs) p = p

asks_of : (x : Bool) (A : Type 0) (B : Type 0) → (A → B) → MatchBool x A (Unit {0}) → MatchBool x B (Unit {0})
asks_of true A B f a = f a
asks_of false A B f a = tt

cut : (h : HighPost) (d : ℕ) (f : List ℕ) (x : Bool) (cs : List Counting) → Parts (if x then opened_by d f else h) cs → Parts h (cut_at (if x then Some (opened_by d f) else None) None cs)
cut h d f x [] p = absurd p
cut h d f true (c ∷ cs) p = (nothing_yet h, (opened_counts d f c.marks p.0, p.1))
cut h d f false (c ∷ cs) p = p

from : (q : ℕ) (t : List Entry) (h : HighPost) → Passes (high_next q) (HighAsks q) h t → Parts h (countings q t)
from q [] h p = (nothing_yet h, tt)
from q (entry.Put l (item.Down (down.Post d f x)) ∷ t) h p = cut h d f (smid_in d == q) (countings q t) (from q t (high_next q h (entry.Put l (item.Down (down.Post d f x)))) p.1)
from q (entry.Put l (item.Out (out.Abort s task)) ∷ t) h p =
    marked h (with_progress Awaited h) Sends (s == q) (countings q t) (λ ms. asks_of (s == q) (h ≡ AnAbort task NotSent) (Rest (with_progress Awaited h) ms → Rest h (Sends ∷ ms)) (λ e. abort_sent task h ms e) p.0) (from q t (high_next q h (entry.Put l (item.Out (out.Abort s task)))) p.1)
from q (entry.Put l (item.Out (out.TargetReset s a)) ∷ t) h p =
    marked h (with_progress Awaited h) Sends (s == q) (countings q t) (λ ms. asks_of (s == q) (h ≡ AReset NotSent) (Rest (with_progress Awaited h) ms → Rest h (Sends ∷ ms)) (λ e. reset_sent h ms e) p.0) (from q t (high_next q h (entry.Put l (item.Out (out.TargetReset s a)))) p.1)
from q (entry.Take l (item.Back (back.Aborted s x)) ∷ t) h p =
    marked h (with_progress (Counted (count_found x)) h) (Counts (count_found x)) (s == q) (countings q t) (λ ms. asks_of (s == q) (AbortIsAwaited h) (Rest (with_progress (Counted (count_found x)) h) ms → Rest h (Counts (count_found x) ∷ ms)) (λ a. abort_counted (count_found x) h ms a) p.0) (from q t (high_next q h (entry.Take l (item.Back (back.Aborted s x)))) p.1)
from q (entry.Take l (item.Back (back.Cleared s n)) ∷ t) h p =
    marked h (with_progress (Counted n) h) (Counts n) (s == q) (countings q t) (λ ms. asks_of (s == q) (h ≡ AReset Awaited) (Rest (with_progress (Counted n) h) ms → Rest h (Counts n ∷ ms)) (λ e. reset_counted n h ms e) p.0) (from q t (high_next q h (entry.Take l (item.Back (back.Cleared s n)))) p.1)
from q (entry.Put l (item.Up (up.Reply d f x y)) ∷ t) h p =
    marked h (closed h) (Replies (count_of f)) (smid_in d == q) (countings q t) (λ ms. asks_of (smid_in d == q) (CountIs h (count_of f)) (Rest (closed h) ms → Rest h (Replies (count_of f) ∷ ms)) (λ a. replied (count_of f) h ms a) p.0) (from q t (high_next q h (entry.Put l (item.Up (up.Reply d f x y)))) p.1)
from q (_ ∷ t) h p = unmarked h (countings q t) (from q t h p.1)

-- a trace that passes has each abort and each target reset counted so
pub are_counted : (q : ℕ) (t : List Entry) → CountsPass q t → AreCounted q t
are_counted q t p = by_parts (countings q t) (from q t NoPost p) (unopened t)
  where
    -- before the first post stands none
    Unopened : List Counting → Type 0
    Unopened [] = ⊥
    Unopened (c ∷ cs) = c.opened ≡ NoPost

    unopened : (t : List Entry) → Unopened (countings q t)
    unopened [] = refl
    unopened (e ∷ t) = after_cut (opens q e) (count_mark q e) (countings q t) (unopened t)
      where
        after_cut : (o : Option HighPost) (m : Option CountMark) (cs : List Counting) → Unopened cs → Unopened (cut_at o m cs)
        after_cut o m [] u = absurd u
        after_cut (Some h) m (c ∷ cs) u = refl
        after_cut None m (c ∷ cs) u = u

    by_parts : (cs : List Counting) → Parts NoPost cs → Unopened cs → EachCounting cs
    by_parts [] h u = absurd h
    by_parts (c ∷ cs) h u = (rw u tt, h.1)
