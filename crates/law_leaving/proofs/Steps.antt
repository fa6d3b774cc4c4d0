-- What the rule of leaving handles knows, step by step, over phases alone.
use Rattle.std.proofs.Common.{◌≡◌, ℕ, ◌≤◌, ◌==◌, ◌⊎◌, inl, inr, Bool, true, false, if◌then◌else◌, List, refl, ap, sym, ◌∙◌, subst, arith}
use Rattle.std.proofs.lemmas.Bool.{eqb-true}
use Rattle.removal.specs.Phases.{after_gone, after_grant, after_page, after_removed, after_task_done}
use Rattle.removal.specs.declared.phase.Phase.{Phase}
use Rattle.removal.specs.declared.phase.Phase.TheVariants as phase
use Rattle.mpt_wire.specs.Handles.Leaving.{Leaving, Unknown, Added, Gone, Answered, after_answer, after_put}
use Rattle.mpt_wire.specs.Handles.Leaving as rule
use Rattle.mpt_trace.specs.declared.item.Down.{Down}
use Rattle.mpt_rules.specs.World.Counts.{post_count}
use Rattle.mpt_rules.specs.World.State.{World}
use Rattle.law_facts.specs.Handles.{LeavingIs, has_gone, is_announced, is_late}

-- ---- from which phase a handle came to this one, where a reply to `hand` was heard and these items are in the outbox then

abbrev pub CameFrom : ℕ → List Down → Phase → Phase → Type 0
CameFrom hand out p phase.Absent = Unit {0}
CameFrom hand out p phase.WaitHigh = p ≡ phase.WaitHigh
CameFrom hand out p (phase.Resetting s) = (p ≡ phase.Resetting s) ⊎ ((p ≡ phase.WaitHigh) × (1 ≤ post_count s out))
CameFrom hand out p phase.WaitInternal = (p ≡ phase.WaitInternal) ⊎ (p ≡ phase.Resetting hand)
CameFrom hand out p (phase.Removing s) = (p ≡ phase.Removing s) ⊎ ((p ≡ phase.WaitInternal) ⊎ (p ≡ phase.Resetting hand))
CameFrom hand out p q = is_announced p ≡ true

module _ (hand : ℕ) where
  pub same_phase : (out : List Down) (p : Phase) → CameFrom hand out p p
  same_phase out phase.Absent = tt
  same_phase out phase.WaitRead = refl
  same_phase out (phase.Reading s) = refl
  same_phase out (phase.Ready a) = refl
  same_phase out phase.WaitHigh = refl
  same_phase out (phase.Resetting s) = inl refl
  same_phase out phase.WaitInternal = inl refl
  same_phase out (phase.Removing s) = inl refl

  pub granted_from : (out : List Down) (p q : Phase) (s : ℕ) → 1 ≤ post_count s out → CameFrom hand out p q → CameFrom hand out p (after_grant q s)
  granted_from out p phase.Absent s l c = tt
  granted_from out p phase.WaitRead s l c = c
  granted_from out p (phase.Reading r) s l c = c
  granted_from out p (phase.Ready a) s l c = c
  granted_from out p phase.WaitHigh s l c = inr (c, l)
  granted_from out p (phase.Resetting r) s l c = c
  granted_from out p phase.WaitInternal s l c = inr c
  granted_from out p (phase.Removing r) s l c = c

  pub more_out : (xs ys : List Down) → ((s : ℕ) → post_count s xs ≤ post_count s ys) → (p q : Phase) → CameFrom hand xs p q → CameFrom hand ys p q
  more_out xs ys m p phase.Absent c = tt
  more_out xs ys m p phase.WaitRead c = c
  more_out xs ys m p (phase.Reading r) c = c
  more_out xs ys m p (phase.Ready a) c = c
  more_out xs ys m p phase.WaitHigh c = c
  more_out xs ys m p (phase.Resetting r) (inl c) = inl c
  more_out xs ys m p (phase.Resetting r) (inr c) = let a = m r in let b = c.1 in inr (c.0, omega (arith, a, b))
  more_out xs ys m p phase.WaitInternal c = c
  more_out xs ys m p (phase.Removing r) c = c

  -- ---- what a reply to `hand` makes of a phase

  pub done_from : (out : List Down) (p : Phase) → CameFrom hand out p (after_task_done p hand)
  done_from out (phase.Resetting s) = by_key (s == hand) refl
    where
      by_key : (b : Bool) → (s == hand) ≡ b → CameFrom hand out (phase.Resetting s) (if b then phase.WaitInternal else phase.Resetting s)
      by_key true t = inr (ap phase.Resetting (eqb-true s hand t))
      by_key false t = inl refl
  done_from out phase.Absent = tt
  done_from out phase.WaitRead = refl
  done_from out (phase.Reading s) = refl
  done_from out (phase.Ready a) = refl
  done_from out phase.WaitHigh = refl
  done_from out phase.WaitInternal = inl refl
  done_from out (phase.Removing s) = inl refl

  pub page_from : (out : List Down) (p : Phase) (o : Rattle.std.specs.Prelude.Option ℕ) → CameFrom hand out p (after_page p hand o)
  page_from out (phase.Reading s) o = by_key (s == hand) o
    where
      by_key : (b : Bool) (o : Rattle.std.specs.Prelude.Option ℕ) → CameFrom hand out (phase.Reading s) (if b then Rattle.removal.specs.Phases.phase_by_page o else phase.Reading s)
      by_key true (Rattle.std.specs.Prelude.Some a) = refl
      by_key true Rattle.std.specs.Prelude.None = tt
      by_key false o = refl
  page_from out (phase.Resetting s) o = inl refl
  page_from out phase.Absent o = tt
  page_from out phase.WaitRead o = refl
  page_from out (phase.Ready a) o = refl
  page_from out phase.WaitHigh o = refl
  page_from out phase.WaitInternal o = inl refl
  page_from out (phase.Removing s) o = inl refl

  pub removed_from : (out : List Down) (p : Phase) → CameFrom hand out p (after_removed p hand)
  removed_from out (phase.Removing s) = by_key (s == hand)
    where
      by_key : (b : Bool) → CameFrom hand out (phase.Removing s) (if b then phase.Absent else phase.Removing s)
      by_key true = tt
      by_key false = inl refl
  removed_from out (phase.Reading s) = refl
  removed_from out (phase.Resetting s) = inl refl
  removed_from out phase.Absent = tt
  removed_from out phase.WaitRead = refl
  removed_from out (phase.Ready a) = refl
  removed_from out phase.WaitHigh = refl
  removed_from out phase.WaitInternal = inl refl

-- ---- the rule's steps

own_key : (n : ℕ) → (n == n) ≡ true
own_key n = grind arith

pub gone_answered : (n : ℕ) (g : Leaving) → has_gone g ≡ true → has_gone (after_answer n g) ≡ true
gone_answered n Unknown e = absurd (cc)
gone_answered n Added e = absurd (cc)
gone_answered n (Gone late) e = by_late (late n)
  where
    by_late : (b : Bool) → has_gone (if b then Answered else Gone late) ≡ true
    by_late true = refl
    by_late false = refl
gone_answered n Answered e = refl

late_answered : (n s : ℕ) (g : Leaving) → is_late g s ≡ true → (after_answer n g ≡ Answered) ⊎ (is_late (after_answer n g) s ≡ true)
late_answered n s Unknown e = absurd (cc)
late_answered n s Added e = absurd (cc)
late_answered n s (Gone late) e = by_late (late n)
  where
    by_late : (b : Bool) → ((if b then Answered else Gone late) ≡ Answered) ⊎ (is_late (if b then Answered else Gone late) s ≡ true)
    by_late true = inl refl
    by_late false = inr e
late_answered n s Answered e = absurd (cc)

own_answered : (s : ℕ) (g : Leaving) → is_late g s ≡ true → after_answer s g ≡ Answered
own_answered s Unknown e = absurd (cc)
own_answered s Added e = absurd (cc)
own_answered s (Gone late) e = ap (λ b. if b then Answered else Gone late) e
own_answered s Answered e = absurd (cc)

gone_put : (n : ℕ) (b : Bool) (g : Leaving) → has_gone g ≡ true → has_gone (after_put n b g) ≡ true
gone_put n b Unknown e = absurd (cc)
gone_put n b Added e = absurd (cc)
gone_put n b (Gone late) e = refl
gone_put n b Answered e = refl

late_put : (n s : ℕ) (b : Bool) (g : Leaving) → (s == n) ≡ false → is_late g s ≡ true → is_late (after_put n b g) s ≡ true
late_put n s b Unknown t e = absurd (cc)
late_put n s b Added t e = absurd (cc)
late_put n s b (Gone late) t e = ap (λ c. if c then b else late s) t ∙ e
late_put n s b Answered t e = absurd (cc)

-- a target reset that is put is late from then on
own_put : (s : ℕ) (g : Leaving) → has_gone g ≡ true → (after_put s true g ≡ Answered) ⊎ (is_late (after_put s true g) s ≡ true)
own_put s Unknown e = absurd (cc)
own_put s Added e = absurd (cc)
own_put s (Gone late) e = inr (ap (λ c. if c then true else late s) (own_key s))
own_put s Answered e = inl refl

pub after_gone_has : (g : Leaving) → g ≡ Added → has_gone (rule.after_gone g) ≡ true
after_gone_has g e = ap (λ x. has_gone (rule.after_gone x)) e

gone_again : (g : Leaving) → has_gone g ≡ true → rule.after_gone g ≡ g
gone_again Unknown e = absurd (cc)
gone_again Added e = absurd (cc)
gone_again (Gone late) e = refl
gone_again Answered e = refl

answered_has : (g : Leaving) → g ≡ Answered → has_gone g ≡ true
answered_has g e = ap has_gone e

-- ---- what is known of a handle, over the posts of the outbox

pub added_known : (w : World) (g : Leaving) (p : Phase) → is_announced p ≡ true → LeavingIs w g p → g ≡ Added
added_known w g phase.WaitRead e k = k
added_known w g (phase.Reading s) e k = k
added_known w g (phase.Ready a) e k = k
added_known w g phase.Absent e k = absurd (cc)
added_known w g phase.WaitHigh e k = absurd (cc)
added_known w g (phase.Resetting s) e k = absurd (cc)
added_known w g phase.WaitInternal e k = absurd (cc)
added_known w g (phase.Removing s) e k = absurd (cc)

-- a reply to any identifier
pub answer_known : (w : World) (n : ℕ) (g : Leaving) (p : Phase) → LeavingIs w g p → LeavingIs w (after_answer n g) p
answer_known w n g phase.Absent k = tt
answer_known w n g phase.WaitRead k = ap (after_answer n) k
answer_known w n g (phase.Reading s) k = ap (after_answer n) k
answer_known w n g (phase.Ready a) k = ap (after_answer n) k
answer_known w n g phase.WaitHigh k = gone_answered n g k
answer_known w n g (phase.Resetting s) (inl k) = inl (ap (after_answer n) k)
answer_known w n g (phase.Resetting s) (inr (e, inl k)) = by_late (late_answered n s g k)
  where
    by_late : (after_answer n g ≡ Answered) ⊎ (is_late (after_answer n g) s ≡ true) → LeavingIs w (after_answer n g) (phase.Resetting s)
    by_late (inl a) = inl a
    by_late (inr a) = inr (gone_answered n g e, inl a)
answer_known w n g (phase.Resetting s) (inr (e, inr k)) = inr (gone_answered n g e, inr k)
answer_known w n g phase.WaitInternal k = ap (after_answer n) k
answer_known w n g (phase.Removing s) k = ap (after_answer n) k

-- a reply to the removal's own target reset, which was put
pub answer_own : (w : World) (s : ℕ) (g : Leaving) → post_count s w.host.out ≡ 0 → LeavingIs w g (phase.Resetting s) → after_answer s g ≡ Answered
answer_own w s g z (inl k) = ap (after_answer s) k
answer_own w s g z (inr (e, inl k)) = own_answered s g k
answer_own w s g z (inr (e, inr k)) = absurd (omega (arith, z, k))

-- the handle is told as gone again
pub gone_known : (w : World) (g : Leaving) (p : Phase) → is_announced p ≡ false → LeavingIs w g p → LeavingIs w (rule.after_gone g) p
gone_known w g phase.Absent e k = tt
gone_known w g phase.WaitRead e k = absurd (cc)
gone_known w g (phase.Reading s) e k = absurd (cc)
gone_known w g (phase.Ready a) e k = absurd (cc)
gone_known w g phase.WaitHigh e k = ap has_gone (gone_again g k) ∙ k
gone_known w g (phase.Resetting s) e (inl k) = inl (gone_again g (answered_has g k) ∙ k)
gone_known w g (phase.Resetting s) e (inr k) = subst (λ x. LeavingIs w x (phase.Resetting s)) (sym (gone_again g k.0)) (inr k)
gone_known w g phase.WaitInternal e k = gone_again g (answered_has g k) ∙ k
gone_known w g (phase.Removing s) e k = gone_again g (answered_has g k) ∙ k

-- a post is put
module _ (w v : World) (g : Leaving) (n : ℕ) (b : Bool) where
  pub put_known : (p : Phase) → LeavingIs w g p → ((s : ℕ) → p ≡ phase.Resetting s → (s == n) ≡ false → post_count s v.host.out ≡ post_count s w.host.out) → ((s : ℕ) → p ≡ phase.Resetting s → s ≡ n → b ≡ true)
      → LeavingIs v (after_put n b g) p
  put_known phase.Absent k a o = tt
  put_known phase.WaitRead k a o = ap (after_put n b) k
  put_known (phase.Reading s) k a o = ap (after_put n b) k
  put_known (phase.Ready x) k a o = ap (after_put n b) k
  put_known phase.WaitHigh k a o = gone_put n b g k
  put_known phase.WaitInternal k a o = ap (after_put n b) k
  put_known (phase.Removing s) k a o = ap (after_put n b) k
  put_known (phase.Resetting s) (inl k) a o = inl (ap (after_put n b) k)
  put_known (phase.Resetting s) (inr k) a o = by_key (s == n) refl
    where
      at_own : (after_put n true g ≡ Answered) ⊎ (is_late (after_put n true g) n ≡ true) → s ≡ n → b ≡ true → LeavingIs v (after_put n b g) (phase.Resetting s)
      at_own (inl x) z y = inl (ap (λ c. after_put n c g) y ∙ x)
      at_own (inr x) z y = inr (gone_put n b g k.0, inl (ap (λ c. is_late (after_put n c g) s) y ∙ (ap (is_late (after_put n true g)) z ∙ x)))

      by_known : (s == n) ≡ false → (is_late g s ≡ true) ⊎ (post_count s w.host.out ≡ 1) → LeavingIs v (after_put n b g) (phase.Resetting s)
      by_known t (inl x) = inr (gone_put n b g k.0, inl (late_put n s b g t x))
      by_known t (inr x) = inr (gone_put n b g k.0, inr (a s refl t ∙ x))

      by_key : (c : Bool) → (s == n) ≡ c → LeavingIs v (after_put n b g) (phase.Resetting s)
      by_key true t = let z = eqb-true s n t in at_own (own_put n g k.0) z (o s refl z)
      by_key false t = by_known t k.1

-- a phase that came from another
module _ (w v : World) (hand : ℕ) (g : Leaving) where
  pub came_known : (p q : Phase) → LeavingIs w g p → CameFrom hand v.host.out p q → (p ≡ phase.Resetting hand → g ≡ Answered)
      → ((s : ℕ) → q ≡ phase.Resetting s → post_count s v.host.out ≤ 1) → ((s : ℕ) → q ≡ phase.Resetting s → post_count s w.host.out ≡ 1 → post_count s v.host.out ≡ 1) → LeavingIs v g q
  came_known p phase.Absent k c d o m = tt
  came_known p phase.WaitRead k c d o m = added_known w g p c k
  came_known p (phase.Reading s) k c d o m = added_known w g p c k
  came_known p (phase.Ready a) k c d o m = added_known w g p c k
  came_known p phase.WaitHigh k c d o m = subst (LeavingIs w g) c k
  came_known p (phase.Resetting s) k (inl c) d o m = by_known (subst (LeavingIs w g) c k)
    where
      by_known : LeavingIs w g (phase.Resetting s) → LeavingIs v g (phase.Resetting s)
      by_known (inl x) = inl x
      by_known (inr (e, inl x)) = inr (e, inl x)
      by_known (inr (e, inr x)) = inr (e, inr (m s refl x))
  came_known p (phase.Resetting s) k (inr c) d o m = let a = o s refl in let b = c.1 in let e : has_gone g ≡ true = subst (LeavingIs w g) c.0 k in inr (e, inr (omega (arith, a, b)))
  came_known p phase.WaitInternal k (inl c) d o m = subst (LeavingIs w g) c k
  came_known p phase.WaitInternal k (inr c) d o m = d c
  came_known p (phase.Removing s) k (inl c) d o m = subst (LeavingIs w g) c k
  came_known p (phase.Removing s) k (inr (inl c)) d o m = subst (LeavingIs w g) c k
  came_known p (phase.Removing s) k (inr (inr c)) d o m = d c

-- the same of the host elsewhere
pub moved_known : (w v : World) (g : Leaving) (p : Phase) → ((s : ℕ) → p ≡ phase.Resetting s → post_count s w.host.out ≡ 1 → post_count s v.host.out ≡ 1) → LeavingIs w g p → LeavingIs v g p
moved_known w v g phase.Absent m k = tt
moved_known w v g phase.WaitRead m k = k
moved_known w v g (phase.Reading s) m k = k
moved_known w v g (phase.Ready a) m k = k
moved_known w v g phase.WaitHigh m k = k
moved_known w v g (phase.Resetting s) m (inl k) = inl k
moved_known w v g (phase.Resetting s) m (inr (e, inl k)) = inr (e, inl k)
moved_known w v g (phase.Resetting s) m (inr (e, inr k)) = inr (e, inr (m s refl k))
moved_known w v g phase.WaitInternal m k = k
moved_known w v g (phase.Removing s) m k = k
