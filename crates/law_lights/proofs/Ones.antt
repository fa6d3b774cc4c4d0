-- One port enable: where it is answered, none is before its processing and none at the fabric.
use Rattle.std.proofs.Common.{◌≡◌, ℕ, zero, suc, ◌+◌, ◌<◌, ◌≤◌, ◌==◌, ◌&&◌, not, Bool, true, false, List, [], ◌∷◌, ◌++◌, get_or, length, Option, Some, None, refl, ap, sym, ◌∙◌, subst, arith}
use Rattle.std.specs.List.{sum_by}
use Rattle.std.proofs.lemmas.List.Sums.{sum_by-cons}
use Rattle.smid_pool.specs.Pool.{Slot, Free}
use Rattle.mpt_trace.specs.declared.item.Down.{Down}
use Rattle.mpt_trace.specs.declared.item.Down.TheVariants as down
use Rattle.mpt_rules.specs.declared.post.Post.{Post}
use Rattle.mpt_rules.specs.declared.request.Request.{Request}
use Rattle.mpt_rules.specs.World.Counts.{how_many, one_if, post_count, queued_count}
use Rattle.mpt_rules.specs.World.Lines.{is_high, normal_line, normal_posts}
use Rattle.mpt_rules.specs.World.State.{World}
use Rattle.mpt_rules.proofs.Counts.{post_count-cons, queued_count-cons, queued_count-nil}
use Rattle.law_facts.specs.Messages.{enables_before}
use Rattle.law_facts.specs.Words.{is_enable_asked}
use Rattle.law_moves.proofs.Counted.{how_many-cons, how_many-nil}

at_most : (c : Bool) → one_if c ≤ 1
at_most true = omega arith
at_most false = omega arith

both_least : (a c : Bool) → one_if (a && c) ≤ one_if a
both_least true c = at_most c
both_least false c = omega arith

-- ---- that wait for their processing

module _ (w : World) where
  before-cons : (s : ℕ) (r : Slot Request) (rs : List (Slot Request)) → enables_before w s (r ∷ rs) ≡ one_if (is_enable_asked r && not (queued_count s (normal_line w) == 0)) + enables_before w (suc s) rs
  unfolding enables_before
  before-cons s r rs = refl

  before-nil : (s : ℕ) → enables_before w s [] ≡ 0
  unfolding enables_before
  before-nil s = refl

  few_before : (s : ℕ) (rs : List (Slot Request)) → enables_before w s rs ≤ how_many is_enable_asked rs
  few_before s [] = let a = before-nil s in let c = how_many-nil {X = Slot Request} is_enable_asked in omega (arith, a, c)
  few_before s (r ∷ rs) =
      let h = few_before (suc s) rs in let a = before-cons s r rs in let c = how_many-cons is_enable_asked r rs in let l = both_least (is_enable_asked r) (not (queued_count s (normal_line w) == 0)) in
      omega (arith, h, a, c, l)

  -- but one that doesn't wait
  pub all_but : (s : ℕ) (rs : List (Slot Request)) (i : ℕ) → i < length rs → is_enable_asked (get_or rs i Free) ≡ true → queued_count (s + i) (normal_line w) ≡ 0 → enables_before w s rs + 1 ≤ how_many is_enable_asked rs
  all_but s [] i l e z = absurd (omega (arith, l))
  all_but s (r ∷ rs) zero l e z =
      let h = few_before (suc s) rs in let a = before-cons s r rs in let c = how_many-cons is_enable_asked r rs in
      let q : queued_count s (normal_line w) ≡ 0 = ap (λ n. queued_count n (normal_line w)) (at_once s) ∙ z in
      let o : one_if (is_enable_asked r) ≡ 1 = ap one_if e in
      let n : one_if (is_enable_asked r && not (queued_count s (normal_line w) == 0)) ≡ 0 = ap (λ n. one_if (is_enable_asked r && not (n == 0))) q ∙ never (is_enable_asked r) in
      omega (arith, h, a, c, o, n)
    where
      at_once : (s : ℕ) → s ≡ s + 0
      at_once s = omega arith

      never : (c : Bool) → one_if (c && false) ≡ 0
      never true = refl
      never false = refl
  all_but s (r ∷ rs) (suc i) l e z =
      let h = all_but (suc s) rs i (omega (arith, l)) e (ap (λ n. queued_count n (normal_line w)) (next s i) ∙ z) in
      let a = before-cons s r rs in let c = how_many-cons is_enable_asked r rs in let m = both_least (is_enable_asked r) (not (queued_count s (normal_line w) == 0)) in
      omega (arith, h, a, c, m)
    where
      next : (s i : ℕ) → suc s + i ≡ s + suc i
      next s i = omega arith

-- ---- posts on their way

pub normal_few : (s : ℕ) (xs : List Down) → queued_count s (normal_posts xs) ≤ post_count s xs
unfolding normal_posts
normal_few s [] = let a = queued_count-nil s in omega (arith, a)
normal_few s (down.Post d f p ∷ xs) = by_high (is_high d) refl (normal_few s xs)
  where
    by_high : (c : Bool) → is_high d ≡ c → queued_count s (normal_posts xs) ≤ post_count s xs → queued_count s (normal_posts (down.Post d f p ∷ xs)) ≤ post_count s (down.Post d f p ∷ xs)
    by_high true e h =
        let a : normal_posts (down.Post d f p ∷ xs) ≡ normal_posts xs =
        ap (λ c. Rattle.std.specs.List.cons_option (Rattle.std.proofs.Common.cond c None (Some (record { descriptor = d; frame = f; payload = p }))) (normal_posts xs)) e in
        let g = ap (queued_count s) a in let c = post_count-cons s (down.Post d f p) xs in omega (arith, h, g, c)
    by_high false e h =
        let x : Post = record { descriptor = d; frame = f; payload = p } in
        let a : normal_posts (down.Post d f p ∷ xs) ≡ x ∷ normal_posts xs = ap (λ c. Rattle.std.specs.List.cons_option (Rattle.std.proofs.Common.cond c None (Some x)) (normal_posts xs)) e in
        let g = ap (queued_count s) a in let q = queued_count-cons s x (normal_posts xs) in let c = post_count-cons s (down.Post d f p) xs in omega (arith, h, g, q, c)
normal_few s (down.Write reg value ∷ xs) = let h = normal_few s xs in let c = post_count-cons s (down.Write reg value) xs in omega (arith, h, c)
normal_few s (down.Read reg ∷ xs) = let h = normal_few s xs in let c = post_count-cons s (down.Read reg) xs in omega (arith, h, c)
normal_few s (down.Return a i ∷ xs) = let h = normal_few s xs in let c = post_count-cons s (down.Return a i) xs in omega (arith, h, c)
normal_few s (down.Stop ∷ xs) = let h = normal_few s xs in let c = post_count-cons s down.Stop xs in omega (arith, h, c)

-- ---- of any list

module _ {X : Type 0} (p : X → Bool) (d : X) where
  none_at : (xs : List X) → ((i : ℕ) → i < length xs → p (get_or xs i d) ≡ false) → how_many p xs ≡ 0
  none_at [] f = how_many-nil p
  none_at (x ∷ xs) f =
      let h = none_at xs (λ i l. f (suc i) (omega (arith, l))) in let c = how_many-cons p x xs in let o : one_if (p x) ≡ 0 = ap one_if (f 0 (omega arith)) in
      omega (arith, h, c, o)

  some_at : (xs : List X) (i : ℕ) → i < length xs → p (get_or xs i d) ≡ true → 1 ≤ how_many p xs
  some_at [] i l e = absurd (omega (arith, l))
  some_at (x ∷ xs) zero l e = let c = how_many-cons p x xs in let o : one_if (p x) ≡ 1 = ap one_if e in omega (arith, c, o)
  some_at (x ∷ xs) (suc i) l e = let h = some_at xs i (omega (arith, l)) e in let c = how_many-cons p x xs in omega (arith, h, c)

  -- the only one
  only_one : (xs : List X) (i j : ℕ) → i < length xs → j < length xs → p (get_or xs i d) ≡ true → p (get_or xs j d) ≡ true → how_many p xs ≤ 1 → i ≡ j
  only_one [] i j l m e f n = absurd (omega (arith, l))
  only_one (x ∷ xs) zero zero l m e f n = refl
  only_one (x ∷ xs) zero (suc j) l m e f n = let h = some_at xs j (omega (arith, m)) f in let c = how_many-cons p x xs in let o : one_if (p x) ≡ 1 = ap one_if e in absurd (omega (arith, h, c, o, n))
  only_one (x ∷ xs) (suc i) zero l m e f n = let h = some_at xs i (omega (arith, l)) e in let c = how_many-cons p x xs in let o : one_if (p x) ≡ 1 = ap one_if f in absurd (omega (arith, h, c, o, n))
  only_one (x ∷ xs) (suc i) (suc j) l m e f n = let c = how_many-cons p x xs in ap suc (only_one xs i j (omega (arith, l)) (omega (arith, m)) e f (omega (arith, c, n)))

pub none_of : {X : Type 0} (p : X → Bool) (d : X) (xs : List X) → ((i : ℕ) → i < length xs → p (get_or xs i d) ≡ false) → how_many p xs ≡ 0
none_of p d xs f = none_at p d xs f

pub one_of : {X : Type 0} (p : X → Bool) (d : X) (xs : List X) (i j : ℕ) → i < length xs → j < length xs → p (get_or xs i d) ≡ true → p (get_or xs j d) ≡ true → how_many p xs ≤ 1 → i ≡ j
one_of p d xs i j l m e f n = only_one p d xs i j l m e f n

pub some_of : {X : Type 0} (p : X → Bool) (d : X) (xs : List X) (i : ℕ) → i < length xs → p (get_or xs i d) ≡ true → 1 ≤ how_many p xs
some_of p d xs i l e = some_at p d xs i l e

-- one of the summands
pub sum_at : {X : Type 0} (f : X → ℕ) (d : X) → f d ≡ 0 → (xs : List X) (i : ℕ) → f (get_or xs i d) ≤ sum_by f xs
sum_at f d z [] i = let e : f (get_or [] i d) ≡ 0 = z in omega (arith, e)
sum_at f d z (x ∷ xs) zero = let c = sum_by-cons f x xs in omega (arith, c)
sum_at f d z (x ∷ xs) (suc i) = let h = sum_at f d z xs i in let c = sum_by-cons f x xs in omega (arith, h, c)
