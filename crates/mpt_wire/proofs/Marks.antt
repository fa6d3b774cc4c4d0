-- A lane that passes the rule of marks has each reset's mark first behind the reset, and no other.
use Rattle.std.proofs.Common.{◌≡◌, ◌⊎◌, inl, inr, ℕ, ◌+◌, ◌%◌, ◌^◌, Bool, true, false, List, [], ◌∷◌, Option, Some, None, is_some, refl, sym, ◌∙◌, ap, subst, arith, if◌then◌else◌, count_by}
use Rattle.std.specs.List.{list_any}
use Rattle.std.proofs.lemmas.Grind.{common_steps}
use Rattle.std.proofs.lemmas.List.Sums.{sum_by-cons}
use Rattle.mpt_trace.specs.declared.item.Item.{Item}
use Rattle.mpt_trace.specs.declared.item.Item.TheVariants as item
use Rattle.mpt_trace.specs.declared.item.Up.TheVariants as up
use Rattle.mpt_trace.specs.declared.entry.Entry.{Entry}
use Rattle.mpt_trace.specs.declared.entry.Entry.TheVariants as entry
use Rattle.mpt_wire.specs.Walks.Lasting.{Lasts, never}
use Rattle.mpt_wire.specs.Walks.Passes.{Passes, state_after}
use Rattle.mpt_wire.specs.Queues.Marks.{Awaits, IsEachMark, IsMarkDue, IsMarkOrDue, IsMarkTaken, IsUnbindAll, ItemAsks, LaneIsMarked, MarkAsks, Marking, NoReset, Taken, is_mark_item, due_after_put, is_unbind_all, wait_after_take, mark_item, marks_next, next_reset, no_marking, put_on_queue, puts_on, reset_number, taken_on_queue}
use Rattle.mpt_wire.proofs.Lasting.{after_split, asked_in, behind, last_or_none, lasts, left_not, right_not, stays}

-- ---- the numbers of resets

one_more : (i : ℕ) (g : Marking) (e : Entry) (n : ℕ) → g.resets ≡ n % 2 ^ 32 → (marks_next i g e).resets ≡ ((if is_unbind_all e then 1 else 0) + n) % 2 ^ 32
one_more i g entry.UnbindAll n c = rw c (omega arith)
one_more i g _ n c = c ∙ ap (λ k. k % 2 ^ 32) (omega arith)

counted : (i : ℕ) (g : Marking) (t : List Entry) (n : ℕ) → g.resets ≡ n % 2 ^ 32 → (state_after (marks_next i) g t).resets ≡ (n + count_by is_unbind_all t) % 2 ^ 32
counted i g [] n c = c ∙ ap (λ k. k % 2 ^ 32) (omega arith)
counted i g (e ∷ t) n c =
    let one : count_by is_unbind_all (e ∷ t) ≡ (if is_unbind_all e then 1 else 0) + count_by is_unbind_all t = sum_by-cons (λ x. if is_unbind_all x then 1 else 0) e t in
    counted i (marks_next i g e) t ((if is_unbind_all e then 1 else 0) + n) (one_more i g e n c) ∙ ap (λ k. k % 2 ^ 32) (omega (arith, one))

-- after these entries the next reset has its number
next_number : (i : ℕ) (t : List Entry) → next_reset (state_after (marks_next i) no_marking t).resets ≡ reset_number t
next_number i t = let c : (state_after (marks_next i) no_marking t).resets ≡ (0 + count_by is_unbind_all t) % 2 ^ 32 = counted i no_marking t 0 refl in rw c (omega arith)

-- ---- the mark that is due

abbrev In : ℕ → List ℕ → Type 0
In n [] = ⊥
In n (m ∷ due) = (m ≡ n) ⊎ In n due

each_is : (n : ℕ) (due : List ℕ) (it : Item) → In n due → IsEachMark due it → it ≡ mark_item n
each_is n [] it d a = absurd d
each_is n (m ∷ due) it (inl same) a = a.0 ∙ ap mark_item same
each_is n (m ∷ due) it (inr d) a = each_is n due it d a.1

is_the_mark : (n : ℕ) (due : List ℕ) (it : Item) → In n due → IsMarkOrDue due it → it ≡ mark_item n
is_the_mark n [] it d a = absurd d
is_the_mark n (m ∷ due) it d a = each_is n (m ∷ due) it d a

asked_item : (due : List ℕ) (o : Option Item) (it : Item) → o ≡ Some it → ItemAsks due o → IsMarkOrDue due it
asked_item due None it s a = absurd cc
asked_item due (Some other) it s a = let same : other ≡ it = cc in subst (IsMarkOrDue due) same a

-- what is asked of an entry that puts an item on the lane
asked_put : (i : ℕ) (g : Marking) (e : Entry) (it : Item) → put_on_queue i e ≡ Some it → MarkAsks i g e → IsMarkOrDue g.due it
asked_put i g (entry.Put l other) it s a = asked_item g.due (put_on_queue i (entry.Put l other)) it s a
asked_put i g _ it s a = absurd cc

unput : (due : List ℕ) (o : Option Item) → is_some o ≡ false → due_after_put due o ≡ due
unput due None n = refl
unput due (Some it) n = absurd cc

stays_due : (i n : ℕ) (g : Marking) (e : Entry) → In n g.due → puts_on i e ≡ false → In n (marks_next i g e).due
stays_due i n g entry.UnbindAll d u = inr d
stays_due i n g (entry.Put l it) d u = subst (In n) (sym (unput g.due (put_on_queue i (entry.Put l it)) u)) d
stays_due i n g _ d u = d

-- a reset makes its mark due, and has it awaited
makes_due : (i : ℕ) (g : Marking) (e : Entry) → IsUnbindAll e → In (next_reset g.resets) (marks_next i g e).due
makes_due i g entry.UnbindAll r = inl refl
makes_due i g _ r = absurd cc

makes_awaited : (i : ℕ) (g : Marking) (e : Entry) → IsUnbindAll e → (marks_next i g e).wait ≡ Awaits (next_reset g.resets)
makes_awaited i g entry.UnbindAll r = refl
makes_awaited i g _ r = absurd cc

due_after : (i : ℕ) (before : List Entry) (d : IsMarkDue i before) → In (reset_number d.earlier) (state_after (marks_next i) no_marking before).due
due_after i before d =
    let g : Marking = state_after (marks_next i) no_marking d.earlier in
    let n : ℕ = reset_number d.earlier in
    let new : In n (marks_next i g d.maker).due = subst (λ k. In k (marks_next i g d.maker).due) (next_number i d.earlier) (makes_due i g d.maker d.makes) in
    let old : In n (state_after (marks_next i) (marks_next i g d.maker) d.since).due = stays (marks_next i) (λ x. In n x.due) IsUnbindAll (puts_on i) (stays_due i n) (marks_next i g d.maker) d.since new d.kept in
    subst (λ u. In n (state_after (marks_next i) no_marking u).due) (sym d.split) (subst (λ x. In n x.due) (sym (after_split (marks_next i) no_marking d.earlier d.since d.maker)) old)

-- ---- no other mark

abbrev IsDue : List ℕ → Type 0
IsDue [] = ⊥
IsDue (n ∷ due) = Unit {0}

due_put : (due : List ℕ) (o : Option Item) → IsDue (due_after_put due o) → IsDue due × (is_some o ≡ false)
due_put due None d = (d, refl)
due_put due (Some it) d = absurd d

came_from : (i : ℕ) (g : Marking) (e : Entry) → IsDue (marks_next i g e).due → IsUnbindAll e ⊎ (IsDue g.due × (puts_on i e ≡ false))
came_from i g entry.UnbindAll d = inl refl
came_from i g (entry.Put l it) d = inr (due_put g.due (put_on_queue i (entry.Put l it)) d)
came_from i g _ d = inr (d, refl)

marks_are_due : (n : ℕ) (due : List ℕ) → IsMarkOrDue due (mark_item n) → IsDue due
marks_are_due n [] a = absurd a
marks_are_due n (m ∷ due) a = tt

-- ---- the mark is awaited

is_its_mark : (n : ℕ) (it : Item) → is_mark_item n it ≡ true → it ≡ mark_item n
is_its_mark n (item.Up (up.Mark number)) b = let same : number ≡ n = grind (arith, common_steps) in ap mark_item same
is_its_mark n _ b = absurd cc

await_item : (n : ℕ) (it : Item) (b : Bool) → is_mark_item n it ≡ b → ((if b then Taken else Awaits n) ≡ Awaits n) ⊎ (it ≡ mark_item n)
await_item n it true b = inr (is_its_mark n it b)
await_item n it false b = inl refl

await_taken : (n : ℕ) (o : Option Item) → (wait_after_take (Awaits n) o ≡ Awaits n) ⊎ (o ≡ Some (mark_item n))
await_taken n None = inl refl
await_taken n (Some it) = by_item (await_item n it (is_mark_item n it) refl)
  where
    by_item : (wait_after_take (Awaits n) (Some it) ≡ Awaits n) ⊎ (it ≡ mark_item n) → (wait_after_take (Awaits n) (Some it) ≡ Awaits n) ⊎ (Some it ≡ Some (mark_item n))
    by_item (inl w) = inl w
    by_item (inr m) = inr (ap Some m)

awaits_still : (i n : ℕ) (g : Marking) (e : Entry) → is_unbind_all e ≡ false → g.wait ≡ Awaits n → ((marks_next i g e).wait ≡ Awaits n) ⊎ (taken_on_queue i e ≡ Some (mark_item n))
awaits_still i n g entry.UnbindAll r w = absurd cc
awaits_still i n g (entry.Take l it) r w = rw w (await_taken n (taken_on_queue i (entry.Take l it)))
awaits_still i n g _ r w = inl w

abbrev Takes : ℕ → ℕ → Entry → Type 0
Takes i n e = taken_on_queue i e ≡ Some (mark_item n)

step_taken : (i n : ℕ) (g : Marking) (e : Entry) (t : List Entry)
    → ((marks_next i g e).wait ≡ Awaits n → Lasts (Takes i n) never t) → ((marks_next i g e).wait ≡ Awaits n) ⊎ Takes i n e → list_any never t ≡ false → Lasts (Takes i n) never (e ∷ t)
step_taken i n g e t rest (inl w) none = behind (Takes i n) never e t (rest w)
step_taken i n g e t rest (inr m) none = record { earlier = []; maker = e; since = t; split = refl; makes = m; kept = none }

none_ends : (t : List Entry) → list_any never t ≡ false
none_ends [] = refl
none_ends (e ∷ t) = none_ends t

was_taken : (i n : ℕ) (g : Marking) (t : List Entry) → list_any is_unbind_all t ≡ false → g.wait ≡ Awaits n → (state_after (marks_next i) g t).wait ≡ Taken → Lasts (Takes i n) never t
was_taken i n g [] r w d = absurd cc
was_taken i n g (e ∷ t) r w d =
    step_taken i n g e t (λ v. was_taken i n (marks_next i g e) t (right_not (is_unbind_all e) (list_any is_unbind_all t) r) v d)
    (awaits_still i n g e (left_not (is_unbind_all e) (list_any is_unbind_all t) r) w) (none_ends t)

none_awaited : (o : Option Item) → wait_after_take NoReset o ≡ NoReset
none_awaited None = refl
none_awaited (Some it) = refl

stays_none : (i : ℕ) (g : Marking) (e : Entry) → g.wait ≡ NoReset → is_unbind_all e ≡ false → (marks_next i g e).wait ≡ NoReset
stays_none i g entry.UnbindAll w r = absurd cc
stays_none i g (entry.Take l it) w r = rw w (none_awaited (taken_on_queue i (entry.Take l it)))
stays_none i g _ w r = w

mark_taken : (i : ℕ) (before : List Entry) → (state_after (marks_next i) no_marking before).wait ≡ Taken → IsMarkTaken i before
mark_taken i before d = by_reset (last_or_none is_unbind_all before)
  where
    by_reset : Lasts IsUnbindAll is_unbind_all before ⊎ (list_any is_unbind_all before ≡ false) → IsMarkTaken i before
    by_reset (inl l) =
        let g : Marking = state_after (marks_next i) no_marking l.earlier in
        let w : (marks_next i g l.maker).wait ≡ Awaits (reset_number l.earlier) = makes_awaited i g l.maker l.makes ∙ ap Awaits (next_number i l.earlier) in
        let e : state_after (marks_next i) no_marking before ≡ state_after (marks_next i) (marks_next i g l.maker) l.since = ap (state_after (marks_next i) no_marking) l.split ∙ after_split (marks_next i) no_marking l.earlier l.since l.maker in
        record { reset = l; took = was_taken i (reset_number l.earlier) (marks_next i g l.maker) l.since l.kept w (sym (ap (λ x. x.wait) e) ∙ d) }
    by_reset (inr none) =
        let w : (state_after (marks_next i) no_marking before).wait ≡ NoReset = stays (marks_next i) (λ x. x.wait ≡ NoReset) IsUnbindAll is_unbind_all (stays_none i) no_marking before refl none in
        absurd cc

-- what passes the rule is marked
pub lane_is_marked : (i : ℕ) (t : List Entry) → Passes (marks_next i) (MarkAsks i) no_marking t → LaneIsMarked i t
lane_is_marked i t p = record {
  marks = λ before after e it split put due.
      is_the_mark (reset_number due.earlier) (state_after (marks_next i) no_marking before).due it (due_after i before due) (asked_put i (state_after (marks_next i) no_marking before) e it put (asked_in (marks_next i) (MarkAsks i) no_marking t before after e p split));
  no_other = λ before after e generation split put.
      lasts (marks_next i) (λ x. IsDue x.due) IsUnbindAll (puts_on i) (came_from i) no_marking (λ d. d) before
      (marks_are_due generation (state_after (marks_next i) no_marking before).due (asked_put i (state_after (marks_next i) no_marking before) e (mark_item generation) put (asked_in (marks_next i) (MarkAsks i) no_marking t before after e p split)));
  awaited = λ before after split. mark_taken i before (asked_in (marks_next i) (MarkAsks i) no_marking t before after entry.ResetDone p split);
}
