-- Of a live controller's host one handle at most is ready for an address.
use Rattle.std.proofs.Common.{◌≡◌, ◌≢◌, ℕ, zero, suc, ◌<◌, ◌≤◌, ◌==◌, ◌⊎◌, inl, inr, Bool, true, false, not, List, [], ◌∷◌, ◌++◌, map, Option, Some, None, option_map, refl, ap, sym, ◌∙◌, subst, arith}
use Rattle.std.specs.List.{list_any}
use Rattle.std.proofs.lemmas.Bool.{eqb-true}
use Rattle.removal.specs.Handles.{IsHandle}
use Rattle.removal.specs.declared.phase.Phase.TheVariants as phase
use Rattle.mpt_wire.specs.Handles.Bindings.{Plug}
use Rattle.mpt_rules.specs.declared.binding.Binding.{Binding}
use Rattle.mpt_rules.specs.declared.binding.Binding.TheVariants as binding
use Rattle.mpt_rules.specs.declared.said.Said.{Said}
use Rattle.mpt_rules.specs.Ioc.Tables.{binding_of}
use Rattle.mpt_rules.specs.World.Counts.{how_many, one_if}
use Rattle.mpt_rules.specs.World.Lines.{up_line}
use Rattle.mpt_rules.specs.World.News as news
use Rattle.mpt_rules.specs.World.News.{News, news_in}
use Rattle.mpt_rules.specs.World.State.{World}
use Rattle.mpt_rules.specs.World.Weight.{is_gone_binding}
use Rattle.law_facts.specs.Clock.{in_normal, is_live}
use Rattle.law_facts.specs.Facts.{Facts}
use Rattle.law_facts.specs.Handles.{Left, ReadyIsBound, Side, There, Turn, is_departure, phase_of, removal_of, replayed, side_of_binding, side_of_phase, tells_added, tells_gone, turn_of, turns_of}
use Rattle.law_facts.specs.History.{History}
use Rattle.law_handles.proofs.Life.{replayed_none, turns_cons, turns_nil}
use Rattle.law_messages.proofs.Agreeing.{not_both, same}
use Rattle.law_moves.proofs.Counted.{how_many-cons, how_many-nil, later-is, later-le}
use Rattle.law_pages.proofs.Taken.{bound_at}

clash_none : {T : Type 0} (ts : List Turn) (s : Side) → replayed None ts ≡ Some s → T
clash_none ts s e = let z = sym (replayed_none ts) ∙ e in absurd (cc)

-- a handle that is there and has left is told to be gone
pub told_gone : (g : ℕ) (xs : List Said) → replayed (Some There) (turns_of 0 g xs) ≡ Some Left → 1 ≤ how_many (tells_gone g) xs
told_gone g [] e = let z : Some There ≡ Some Left = sym (ap (replayed (Some There)) (turns_nil 0 g)) ∙ e in absurd (cc)
told_gone g (x ∷ xs) e = by_news (news_in g x) refl (λ z. told_gone g xs z) (sym (ap (replayed (Some There)) (turns_cons 0 g x xs)) ∙ e)
  where
    by_news : (ns : List News) → news_in g x ≡ ns → (replayed (Some There) (turns_of 0 g xs) ≡ Some Left → 1 ≤ how_many (tells_gone g) xs) → replayed (Some There) (map turn_of ns ++ turns_of 0 g xs) ≡ Some Left → 1 ≤ how_many (tells_gone g) (x ∷ xs)
    by_news [] n r z = let c = how_many-cons (tells_gone g) x xs in let h = r z in omega (arith, c, h)
    by_news (news.Added ∷ ns) n r z = clash_none (map turn_of ns ++ turns_of 0 g xs) Left z
    by_news (news.NotResponding ∷ ns) n r z = let c = how_many-cons (tells_gone g) x xs in let o : one_if (tells_gone g x) ≡ 1 = ap (λ l. one_if (list_any is_departure l)) n in omega (arith, c, o)

-- one that is there isn't told to be added
tells_nothing : (g : ℕ) (xs : List Said) (s : Side) → replayed (Some Left) (turns_of 0 g xs) ≡ Some s → how_many (tells_added g) xs ≡ 0
tells_nothing g [] s e = how_many-nil (tells_added g)
tells_nothing g (x ∷ xs) s e = by_news (news_in g x) refl (λ z. tells_nothing g xs s z) (sym (ap (replayed (Some Left)) (turns_cons 0 g x xs)) ∙ e)
  where
    by_news : (ns : List News) → news_in g x ≡ ns → (replayed (Some Left) (turns_of 0 g xs) ≡ Some s → how_many (tells_added g) xs ≡ 0) → replayed (Some Left) (map turn_of ns ++ turns_of 0 g xs) ≡ Some s → how_many (tells_added g) (x ∷ xs) ≡ 0
    by_news [] n r z = let c = how_many-cons (tells_added g) x xs in let h = r z in let o : one_if (tells_added g x) ≡ 0 = ap (λ l. one_if (list_any (λ y. not (is_departure y)) l)) n in omega (arith, c, h, o)
    by_news (news.Added ∷ ns) n r z = clash_none (map turn_of ns ++ turns_of 0 g xs) s z
    by_news (news.NotResponding ∷ ns) n r z = clash_none (map turn_of ns ++ turns_of 0 g xs) s z

pub not_added : (g : ℕ) (xs : List Said) (s : Side) → replayed (Some There) (turns_of 0 g xs) ≡ Some s → how_many (tells_added g) xs ≡ 0
not_added g [] s e = how_many-nil (tells_added g)
not_added g (x ∷ xs) s e = by_news (news_in g x) refl (λ z. not_added g xs s z) (sym (ap (replayed (Some There)) (turns_cons 0 g x xs)) ∙ e)
  where
    by_news : (ns : List News) → news_in g x ≡ ns → (replayed (Some There) (turns_of 0 g xs) ≡ Some s → how_many (tells_added g) xs ≡ 0) → replayed (Some There) (map turn_of ns ++ turns_of 0 g xs) ≡ Some s → how_many (tells_added g) (x ∷ xs) ≡ 0
    by_news [] n r z = let c = how_many-cons (tells_added g) x xs in let h = r z in let o : one_if (tells_added g x) ≡ 0 = ap (λ l. one_if (list_any (λ y. not (is_departure y)) l)) n in omega (arith, c, h, o)
    by_news (news.Added ∷ ns) n r z = clash_none (map turn_of ns ++ turns_of 0 g xs) s z
    by_news (news.NotResponding ∷ []) n r z = let c = how_many-cons (tells_added g) x xs in let h = tells_nothing g xs s z in let o : one_if (tells_added g x) ≡ 0 = ap (λ l. one_if (list_any (λ y. not (is_departure y)) l)) n in omega (arith, c, h, o)
    by_news (news.NotResponding ∷ (news.Added ∷ ns)) n r z = clash_none (map turn_of ns ++ turns_of 0 g xs) s z
    by_news (news.NotResponding ∷ (news.NotResponding ∷ ns)) n r z = clash_none (map turn_of ns ++ turns_of 0 g xs) s z

gone_left : (b : Binding) → is_gone_binding b ≡ true → side_of_binding b ≡ Left
gone_left binding.Unbound e = absurd (cc)
gone_left (binding.Present address plug expander phy) e = absurd (cc)
gone_left (binding.Gone address) e = refl

order : (m n : ℕ) → (m ≡ n) ⊎ ((m < n) ⊎ (n < m))
order zero zero = inl refl
order zero (suc n) = inr (inl (omega arith))
order (suc m) zero = inr (inr (omega arith))
order (suc m) (suc n) = up (order m n)
  where
    up : (m ≡ n) ⊎ ((m < n) ⊎ (n < m)) → (suc m ≡ suc n) ⊎ ((suc m < suc n) ⊎ (suc n < suc m))
    up (inl e) = inl (ap suc e)
    up (inr (inl l)) = inr (inl (omega (arith, l)))
    up (inr (inr l)) = inr (inr (omega (arith, l)))

module _ (w : World) (h : History) (f : Facts w h) (normal : in_normal w ≡ true) (live : is_live w ≡ true) (a : ℕ) where
  life : (g : ℕ) → IsHandle g → phase_of w g ≡ phase.Ready a → replayed (Some There) (turns_of 0 g (up_line w 0)) ≡ Some (side_of_binding (binding_of w.ioc g))
  life g i p = subst (λ x. replayed (Some (side_of_phase x)) (turns_of (removal_of x) g (up_line w 0)) ≡ Some (side_of_binding (binding_of w.ioc g))) p ((f.handles.each g i).life normal live)

  -- the older of two isn't ready
  older : (j k m n : ℕ) → IsHandle j → IsHandle k → phase_of w j ≡ phase.Ready a → phase_of w k ≡ phase.Ready a → h.serving.bound j ≡ Some (record { address = a; number = m }) → h.serving.bound k ≡ Some (record { address = a; number = n }) → m < n → ⊥
  older j k m n ij ik pj pk bj bk l =
      let o = f.handles.older j k in
      let g = o.gone a m n normal live bj bk l in
      let t = told_gone j (up_line w 0) (life j ij pj ∙ ap Some (gone_left (binding_of w.ioc j) g)) in
      let first = o.first a m n normal live bj bk l t in
      let none = not_added k (up_line w 0) (side_of_binding (binding_of w.ioc k)) (life k ik pk) in
      let e = later-is (tells_gone j) (tells_added k) (up_line w 0) in
      let less = later-le (tells_gone j) (tells_added k) (up_line w 0) in
      omega (arith, first, none, e, less)

  plug_at : (g : ℕ) → bound_at h g ≡ Some a → (n : ℕ) × (h.serving.bound g ≡ Some (record { address = a; number = n }))
  plug_at g = by_plug (h.serving.bound g)
    where
      by_plug : (o : Option Plug) → option_map (λ (p : Plug). p.address) o ≡ Some a → (n : ℕ) × (o ≡ Some (record { address = a; number = n }))
      by_plug None e = absurd (cc)
      by_plug (Some p) e = let z : p.address ≡ a = cc in (p.number, ap (λ x. Some (record { address = x; number = p.number })) z)

  bound : (g : ℕ) → IsHandle g → phase_of w g ≡ phase.Ready a → (n : ℕ) × (h.serving.bound g ≡ Some (record { address = a; number = n }))
  bound g i p = plug_at g (subst (ReadyIsBound w h g) p ((f.handles.each g i).ready normal))

  pub one_ready : (j k : ℕ) → IsHandle j → IsHandle k → phase_of w j ≡ phase.Ready a → phase_of w k ≡ phase.Ready a → j ≡ k
  one_ready j k ij ik pj pk = by_same (j == k) refl
    where
      bj : (n : ℕ) × (h.serving.bound j ≡ Some (record { address = a; number = n }))
      bj = bound j ij pj

      bk : (n : ℕ) × (h.serving.bound k ≡ Some (record { address = a; number = n }))
      bk = bound k ik pk

      apart : (j == k) ≡ false → j ≢ k
      apart t e = not_both (j == k) t (ap (λ x. j == x) (sym e) ∙ same j)

      by_order : (j == k) ≡ false → (bj.0 ≡ bk.0) ⊎ ((bj.0 < bk.0) ⊎ (bk.0 < bj.0)) → j ≡ k
      by_order t (inl e) = absurd (f.handles.differ j k (record { address = a; number = bk.0 }) (apart t) (bj.1 ∙ ap (λ n. Some (record { address = a; number = n })) e) bk.1)
      by_order t (inr (inl l)) = absurd (older j k bj.0 bk.0 ij ik pj pk bj.1 bk.1 l)
      by_order t (inr (inr l)) = absurd (older k j bk.0 bj.0 ik ij pk pj bk.1 bj.1 l)

      by_same : (b : Bool) → (j == k) ≡ b → j ≡ k
      by_same true t = eqb-true j k t
      by_same false t = by_order t (order bj.0 bk.0)
