-- What a rule's state says is what an entry made so and none ended, where the state is changed so at each entry.
use Rattle.std.proofs.Common.{◌≡◌, ◌⊎◌, inl, inr, Bool, true, false, ◌||◌, List, [], ◌∷◌, ◌++◌, refl, ap, sym, subst}
use Rattle.std.specs.List.{list_any}
use Rattle.mpt_trace.specs.declared.entry.Entry.{Entry}
use Rattle.mpt_wire.specs.Walks.Passes.{Passes, state_after}
use Rattle.mpt_wire.specs.Walks.Lasting.{Lasts}

neither : (a b : Bool) → a ≡ false → b ≡ false → (a || b) ≡ false
neither a b p q = rw (p, q) refl

pub left_not : (a b : Bool) → (a || b) ≡ false → a ≡ false
left_not false b p = refl
left_not true b p = absurd cc

pub right_not : (a b : Bool) → (a || b) ≡ false → b ≡ false
right_not false b p = p
right_not true b p = absurd cc

module _ {G : Type 0} (next : G → Entry → G) (asks : G → Entry → Type 0) where
  -- what is asked of an entry, in the state there
  pub asked_at : (g : G) (before after : List Entry) (e : Entry) → Passes next asks g (before ++ e ∷ after) → asks (state_after next g before) e
  asked_at g [] after e p = p.0
  asked_at g (x ∷ before) after e p = asked_at (next g x) before after e p.1

  -- what stands behind an entry passes from the state there
  pub passes_behind : (g : G) (before after : List Entry) (e : Entry) → Passes next asks g (before ++ e ∷ after) → Passes next asks (next (state_after next g before) e) after
  passes_behind g [] after e p = p.1
  passes_behind g (x ∷ before) after e p = passes_behind (next g x) before after e p.1

  pub passes_from : (g : G) (t before after : List Entry) (e : Entry) → Passes next asks g t → t ≡ before ++ e ∷ after → Passes next asks (next (state_after next g before) e) after
  passes_from g t before after e p s = passes_behind g before after e (subst (λ u. Passes next asks g u) s p)

  pub asked_in : (g : G) (t before after : List Entry) (e : Entry) → Passes next asks g t → t ≡ before ++ e ∷ after → asks (state_after next g before) e
  asked_in g t before after e p s = asked_at g before after e (subst (λ u. Passes next asks g u) s p)

pub behind : (Makes : Entry → Type 0) (ends : Entry → Bool) (e : Entry) (t : List Entry) → Lasts Makes ends t → Lasts Makes ends (e ∷ t)
behind Makes ends e t l = record { earlier = e ∷ l.earlier; maker = l.maker; since = l.since; split = ap (λ u. e ∷ u) l.split; makes = l.makes; kept = l.kept }

-- the last entry of a kind, if there is one
pub last_or_none : (test : Entry → Bool) (t : List Entry) → Lasts (λ e. test e ≡ true) test t ⊎ (list_any test t ≡ false)
last_or_none test [] = inr refl
last_or_none test (e ∷ t) = by_rest (last_or_none test t)
  where
    by_entry : (b : Bool) → test e ≡ b → list_any test t ≡ false → Lasts (λ e. test e ≡ true) test (e ∷ t) ⊎ (list_any test (e ∷ t) ≡ false)
    by_entry true b none = inl (record { earlier = []; maker = e; since = t; split = refl; makes = b; kept = none })
    by_entry false b none = inr (neither (test e) (list_any test t) b none)

    by_rest : Lasts (λ e. test e ≡ true) test t ⊎ (list_any test t ≡ false) → Lasts (λ e. test e ≡ true) test (e ∷ t) ⊎ (list_any test (e ∷ t) ≡ false)
    by_rest (inl l) = inl (behind (λ e. test e ≡ true) test e t l)
    by_rest (inr none) = by_entry (test e) refl none

module _ {G : Type 0} (next : G → Entry → G) where
  pub after_split : (g : G) (earlier since : List Entry) (e : Entry) → state_after next g (earlier ++ e ∷ since) ≡ state_after next (next (state_after next g earlier) e) since
  after_split g [] since e = refl
  after_split g (x ∷ earlier) since e = after_split (next g x) earlier since e

module _ {G : Type 0} (next : G → Entry → G) (Fact : G → Type 0) (Makes : Entry → Type 0) (ends : Entry → Bool) where
  -- each entry leaves the fact only where it makes it so, or where it held and the entry doesn't end it
  pub made_or_held : ((g : G) (e : Entry) → Fact (next g e) → Makes e ⊎ (Fact g × (ends e ≡ false)))
      → (g : G) (t : List Entry) → Fact (state_after next g t) → Lasts Makes ends t ⊎ (Fact g × (list_any ends t ≡ false))
  made_or_held step g [] f = inr (f, refl)
  made_or_held step g (e ∷ t) f = by_rest (made_or_held step (next g e) t f)
    where
      by_entry : list_any ends t ≡ false → Makes e ⊎ (Fact g × (ends e ≡ false)) → Lasts Makes ends (e ∷ t) ⊎ (Fact g × (list_any ends (e ∷ t) ≡ false))
      by_entry none (inl m) = inl (record { earlier = []; maker = e; since = t; split = refl; makes = m; kept = none })
      by_entry none (inr p) = inr (p.0, neither (ends e) (list_any ends t) p.1 none)

      by_rest : Lasts Makes ends t ⊎ (Fact (next g e) × (list_any ends t ≡ false)) → Lasts Makes ends (e ∷ t) ⊎ (Fact g × (list_any ends (e ∷ t) ≡ false))
      by_rest (inl l) = inl (behind Makes ends e t l)
      by_rest (inr p) = by_entry p.1 (step g e p.0)

  -- where the fact doesn't hold at first, an entry made it so
  pub lasts : ((g : G) (e : Entry) → Fact (next g e) → Makes e ⊎ (Fact g × (ends e ≡ false)))
      → (g : G) → ¬ Fact g → (t : List Entry) → Fact (state_after next g t) → Lasts Makes ends t
  lasts step g new t f = made (made_or_held step g t f)
    where
      made : Lasts Makes ends t ⊎ (Fact g × (list_any ends t ≡ false)) → Lasts Makes ends t
      made (inl l) = l
      made (inr p) = absurd (new p.0)

  -- and the other way: the fact stays where no entry ends it
  pub stays : ((g : G) (e : Entry) → Fact g → ends e ≡ false → Fact (next g e)) → (g : G) (t : List Entry) → Fact g → list_any ends t ≡ false → Fact (state_after next g t)
  stays keep g [] f n = f
  stays keep g (e ∷ t) f n = stays keep (next g e) t (keep g e f (left_not (ends e) (list_any ends t) n)) (right_not (ends e) (list_any ends t) n)

  made_so : ((g : G) (e : Entry) → Makes e → Fact (next g e)) → ((g : G) (e : Entry) → Fact g → ends e ≡ false → Fact (next g e))
      → (g : G) (earlier since : List Entry) (e : Entry) → Makes e → list_any ends since ≡ false → Fact (state_after next g (earlier ++ e ∷ since))
  made_so make keep g [] since e m n = stays keep (next g e) since (make g e m) n
  made_so make keep g (x ∷ earlier) since e m n = made_so make keep (next g x) earlier since e m n

  pub holds : ((g : G) (e : Entry) → Makes e → Fact (next g e)) → ((g : G) (e : Entry) → Fact g → ends e ≡ false → Fact (next g e))
      → (g : G) (t : List Entry) → Lasts Makes ends t → Fact (state_after next g t)
  holds make keep g t l = subst (λ u. Fact (state_after next g u)) (sym l.split) (made_so make keep g l.earlier l.since l.maker l.makes l.kept)

module _ {G : Type 0} (next : G → Entry → G) (Fact At : G → Type 0) (Makes : Entry → Type 0) (ends : Entry → Bool) where
  -- an entry made it so, in a state where it may
  abbrev pub MadeAt : G → List Entry → Type 0
  MadeAt g t = (l : Lasts Makes ends t) × At (state_after next g l.earlier)

  pub made_at : ((g : G) (e : Entry) → Fact (next g e) → (Makes e × At g) ⊎ (Fact g × (ends e ≡ false)))
      → (g : G) (t : List Entry) → Fact (state_after next g t) → MadeAt g t ⊎ (Fact g × (list_any ends t ≡ false))
  unfolding behind
  made_at step g [] f = inr (f, refl)
  made_at step g (e ∷ t) f = by_rest (made_at step (next g e) t f)
    where
      by_entry : list_any ends t ≡ false → (Makes e × At g) ⊎ (Fact g × (ends e ≡ false)) → MadeAt g (e ∷ t) ⊎ (Fact g × (list_any ends (e ∷ t) ≡ false))
      by_entry none (inl m) = inl (record { earlier = []; maker = e; since = t; split = refl; makes = m.0; kept = none }, m.1)
      by_entry none (inr p) = inr (p.0, neither (ends e) (list_any ends t) p.1 none)

      by_rest : MadeAt (next g e) t ⊎ (Fact (next g e) × (list_any ends t ≡ false)) → MadeAt g (e ∷ t) ⊎ (Fact g × (list_any ends (e ∷ t) ≡ false))
      by_rest (inl l) = inl (behind Makes ends e t l.0, l.1)
      by_rest (inr p) = by_entry p.1 (step g e p.0)
