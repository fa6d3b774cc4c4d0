-- No mark that comes up is strange: it comes on a queue above 0, it is the present reset's, and the first of its queue.
use Rattle.std.proofs.Common.{◌≡◌, ℕ, zero, suc, ◌+◌, ◌≤◌, ◌==◌, ◌&&◌, ◌||◌, not, Bool, true, false, List, [], ◌∷◌, slice_index_or, None, refl, ap, sym, ◌∙◌, arith}
use Rattle.std.proofs.lemmas.Bool.{eqb-true}
use Rattle.mpt_trace.specs.declared.item.Up.{Up}
use Rattle.mpt_trace.specs.declared.item.Up.TheVariants as up
use Rattle.mpt_wire.specs.Machine.Causes.{is_resetting}
use Rattle.mpt_rules.specs.declared.said.Said.{Said}
use Rattle.mpt_rules.specs.declared.said.Said.TheVariants as said
use Rattle.mpt_rules.specs.declared.why.Why.TheVariants as why
use Rattle.mpt_rules.specs.Host.Strange.{bad_mark, why_mark, wrong_queue_of_mark}
use Rattle.mpt_rules.specs.World.Counts.{is_mark, is_mark_of, mark_count, mark_count_of, one_if}
use Rattle.mpt_rules.specs.World.Lines.{up_line}
use Rattle.mpt_rules.specs.World.State.{World, up_on}
use Rattle.mpt_rules.proofs.Counts.{mark_count-cons, mark_count_of-cons}
use Rattle.law_facts.specs.Clock.{MarkStands, has_mark, in_begun}
use Rattle.law_facts.specs.Facts.{Facts}
use Rattle.law_facts.specs.History.{History}
use Rattle.law_moves.proofs.Counted.{fewer_pass}
use Rattle.law_says.proofs.Fronts.{is_queue, line_behind, line_front, no_why, none_first}

of_is_mark : (g : ℕ) (x : Said) → is_mark_of g x ≡ true → is_mark x ≡ true
of_is_mark g (said.Mark generation) e = refl
of_is_mark g (said.Value value) e = absurd (cc)
of_is_mark g (said.Success smid page sense) e = absurd (cc)
of_is_mark g (said.Framed smid frame page sense) e = absurd (cc)
of_is_mark g said.Calm e = absurd (cc)

of_fewer : (g : ℕ) (xs : List Said) → mark_count_of g xs ≤ mark_count xs
unfolding mark_count mark_count_of
of_fewer g xs = fewer_pass (is_mark_of g) is_mark (of_is_mark g) xs

both : (a b : Bool) → (a && b) ≡ true → (a ≡ true) × (b ≡ true)
both true b e = (refl, e)
both false b e = absurd (cc)

all_three : (a b c : Bool) → a ≡ true → b ≡ true → c ≡ false → (not a || (not b || c)) ≡ false
all_three true true false x y z = refl
all_three true true true x y z = absurd (cc)
all_three true false c x y z = absurd (cc)
all_three false b c x y z = absurd (cc)

above : (n : ℕ) → (suc n == 0) ≡ false
above n = grind arith

module _ (w : World) (h : History) (f : Facts w h) where
  -- one mark is in front of the line
  counted : (queue g : ℕ) (rest : List Up) → up_on w queue ≡ up.Mark g ∷ rest → mark_count (up_line w queue) ≡ 1 + mark_count (line_behind w queue rest)
  counted queue g rest e = ap mark_count (line_front w queue (up.Mark g) rest e) ∙ mark_count-cons (said.Mark g) (line_behind w queue rest)

  begun : (queue g : ℕ) (rest : List Up) → up_on w queue ≡ up.Mark g ∷ rest → MarkStands w queue → in_begun w ≡ true
  begun queue g rest e m = by_phase (in_begun w) refl
    where
      by_phase : (b : Bool) → in_begun w ≡ b → b ≡ true
      by_phase true y = refl
      by_phase false y = let z = m.none y in let c = counted queue g rest e in absurd (omega (arith, z, c))

  -- whether the queue's mark was taken
  not_taken : (queue g : ℕ) (rest : List Up) → up_on w queue ≡ up.Mark g ∷ rest → MarkStands w queue → in_begun w ≡ true → (b : Bool) → has_mark w queue ≡ b → b ≡ false
  not_taken queue g rest e m y false t = refl
  not_taken queue g rest e m y true t = let o = m.one y in let z : one_if (not (has_mark w queue)) ≡ 0 = ap (λ b. one_if (not b)) t in let c = counted queue g rest e in absurd (omega (arith, o, z, c))

  -- it is this reset's
  this : (queue g : ℕ) (rest : List Up) → up_on w queue ≡ up.Mark g ∷ rest → MarkStands w queue → in_begun w ≡ true → has_mark w queue ≡ false → (b : Bool) → (g == w.ioc.generation) ≡ b → b ≡ true
  this queue g rest e m y t true z = refl
  this queue g rest e m y t false z =
      let o = m.one y in let i = m.this y in let n : one_if (not (has_mark w queue)) ≡ 1 = ap (λ b. one_if (not b)) t in
      let c = counted queue g rest e in
      let d = ap (mark_count_of w.ioc.generation) (line_front w queue (up.Mark g) rest e) ∙ mark_count_of-cons w.ioc.generation (said.Mark g) (line_behind w queue rest) in
      let s : one_if (g == w.ioc.generation) ≡ 0 = ap one_if z in
      let l = of_fewer w.ioc.generation (line_behind w queue rest) in
      absurd (omega (arith, o, i, n, c, d, s, l))

  pub marks_say : (queue g : ℕ) (rest : List Up) → up_on w queue ≡ up.Mark g ∷ rest → why_mark w.host queue g ≡ None
  marks_say zero g rest e = let z = f.clock.marks.first in let c = counted zero g rest e in absurd (omega (arith, z, c))
  marks_say (suc n) g rest e =
      let m = f.clock.marks.each (suc n) (omega arith) (is_queue w (suc n) (up.Mark g) rest e) in
      let y = begun (suc n) g rest e m in
      let t = not_taken (suc n) g rest e m y (has_mark w (suc n)) refl in
      let q = this (suc n) g rest e m y t (g == w.ioc.generation) refl in
      let p = both (is_resetting w.host.mode) (w.host.asked == w.ioc.generation) y in
      let same : g ≡ w.host.asked = eqb-true g w.ioc.generation q ∙ sym (eqb-true w.host.asked w.ioc.generation p.1) in
      let own : (g == w.host.asked) ≡ true = ap (λ k. g == k) (eqb-true w.host.asked w.ioc.generation p.1) ∙ q in
      none_first (wrong_queue_of_mark (suc n)) (bad_mark w.host (suc n) g ∷ []) (no_why (suc n == 0) (why.WrongQueue (suc n)) (above n))
      (none_first (bad_mark w.host (suc n) g) [] (no_why _ (why.BadMark g) (all_three (is_resetting w.host.mode) (g == w.host.asked) (slice_index_or w.host.marks (suc n) true) p.0 own t)) refl)
