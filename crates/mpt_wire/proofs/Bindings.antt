-- What the rule's state has a handle bound to is what its last bind says; and the least unbound handle.
use Rattle.std.proofs.Common.{◌≡◌, ◌⊎◌, inl, inr, ℕ, zero, suc, ◌+◌, ◌<◌, ◌≤◌, Bool, true, false, ◌==◌, List, Option, Some, None, is_none, refl, sym, arith, if◌then◌else◌, eq-or-lt_of_le}
use Rattle.std.proofs.lemmas.Grind.{common_steps}
use Rattle.mpt_trace.specs.declared.entry.Entry.{Entry}
use Rattle.mpt_trace.specs.declared.entry.Entry.TheVariants as entry
use Rattle.mpt_wire.specs.Handles.Bindings.{Plug, BindsTo, IsBoundTo, IsUnbound, bound_after, bound_next, ends_binding, least_unbound_from}
use Rattle.mpt_wire.specs.Machine.State.{put_at}
use Rattle.mpt_wire.proofs.Lasting.{lasts, holds}

abbrev Has : ℕ → Plug → (ℕ → Option Plug) → Type 0
Has h plug bound = bound h ≡ Some plug

by_bind : (h : ℕ) (plug new : Plug) (bound : ℕ → Option Plug) (handle : ℕ) → put_at handle (Some new) bound h ≡ Some plug
    → ((handle ≡ h) × (plug ≡ new)) ⊎ ((bound h ≡ Some plug) × ((handle == h) ≡ false))
by_bind h plug new bound handle f = grind (arith, common_steps)

by_unbind : (h : ℕ) (plug : Plug) (bound : ℕ → Option Plug) (handle : ℕ) → put_at handle None bound h ≡ Some plug → (bound h ≡ Some plug) × ((handle == h) ≡ false)
by_unbind h plug bound handle f = (grind (arith, common_steps), grind (arith, common_steps))

came_from : (h : ℕ) (plug : Plug) (bound : ℕ → Option Plug) (e : Entry) → Has h plug (bound_next bound e) → BindsTo h plug e ⊎ (Has h plug bound × (ends_binding h e ≡ false))
came_from h plug bound (entry.Bind handle address number) f = by_bind h plug (record { address = address; number = number }) bound handle f
came_from h plug bound (entry.Unbind handle) f = inr (by_unbind h plug bound handle f)
came_from h plug bound entry.UnbindAll f = absurd cc
came_from h plug bound _ f = inr (f, refl)

-- what the state says was bound
pub is_bound_to : (before : List Entry) (h : ℕ) (plug : Plug) → bound_after before h ≡ Some plug → IsBoundTo before h plug
is_bound_to before h plug f = lasts bound_next (Has h plug) (BindsTo h plug) (ends_binding h) (came_from h plug) (λ k. None) (λ e. cc) before f

comes_to : (h : ℕ) (plug : Plug) (bound : ℕ → Option Plug) (e : Entry) → BindsTo h plug e → Has h plug (bound_next bound e)
comes_to h plug bound (entry.Bind handle address number) m = let a : handle ≡ h = m.0 in let b : plug ≡ record { address = address; number = number } = m.1 in grind (arith, common_steps)
comes_to h plug bound _ m = absurd m

kept_at : (h handle : ℕ) (plug : Plug) (new : Option Plug) (bound : ℕ → Option Plug) → bound h ≡ Some plug → (handle == h) ≡ false → put_at handle new bound h ≡ Some plug
kept_at h handle plug new bound f n = grind (arith, common_steps)

stays_so : (h : ℕ) (plug : Plug) (bound : ℕ → Option Plug) (e : Entry) → Has h plug bound → ends_binding h e ≡ false → Has h plug (bound_next bound e)
stays_so h plug bound (entry.Bind handle address number) f n = kept_at h handle plug (Some (record { address = address; number = number })) bound f n
stays_so h plug bound (entry.Unbind handle) f n = kept_at h handle plug None bound f n
stays_so h plug bound entry.UnbindAll f n = absurd cc
stays_so h plug bound _ f n = f

-- and what was bound is what it says
pub bound_to : (before : List Entry) (h : ℕ) (plug : Plug) → IsBoundTo before h plug → bound_after before h ≡ Some plug
bound_to before h plug l = holds bound_next (Has h plug) (BindsTo h plug) (ends_binding h) (comes_to h plug) (stays_so h plug) (λ k. None) before l

-- where it says nothing, nothing was bound
pub is_unbound : (before : List Entry) (h : ℕ) → bound_after before h ≡ None → IsUnbound before h
is_unbound before h n plug l = let f = bound_to before h plug l in cc

-- ---- the least unbound handle

-- a handle is the least of these that isn't bound
pub record IsLeastFrom (from many h : ℕ) (bound : ℕ → Option Plug) : Type 0 where
  pub least : from ≤ h
  pub most : h < from + many
  pub unbound : bound h ≡ None
  pub lower : (k : ℕ) → from ≤ k → k < h → (plug : Plug) × (bound k ≡ Some plug)

some_plug : (o : Option Plug) → is_none o ≡ false → (plug : Plug) × (o ≡ Some plug)
some_plug None n = absurd cc
some_plug (Some plug) n = (plug, refl)

no_plug : (o : Option Plug) → is_none o ≡ true → o ≡ None
no_plug None n = refl
no_plug (Some plug) n = absurd cc

lower_one : (from many h : ℕ) (bound : ℕ → Option Plug) → is_none (bound from) ≡ false → IsLeastFrom (from + 1) many h bound
    → (k : ℕ) → from ≤ k → k < h → (plug : Plug) × (bound k ≡ Some plug)
lower_one from many h bound n l k a b = by_place (eq-or-lt_of_le a)
  where
    by_place : (from ≡ k) ⊎ (from < k) → (plug : Plug) × (bound k ≡ Some plug)
    by_place (inl same) = rw (sym same) (some_plug (bound from) n)
    by_place (inr later) = l.lower k (omega arith) b

first_is_least : (from many h : ℕ) (bound : ℕ → Option Plug) → is_none (bound from) ≡ true → from ≡ h → IsLeastFrom from (suc many) h bound
first_is_least from many h bound t same =
    record { least = omega arith; most = omega arith; unbound = rw (sym same) (no_plug (bound from) t); lower = λ k a b. absurd (omega arith) }

later_is_least : (from many h : ℕ) (bound : ℕ → Option Plug) → is_none (bound from) ≡ false → IsLeastFrom (from + 1) many h bound → IsLeastFrom from (suc many) h bound
later_is_least from many h bound n l =
    record { least = let x = l.least in omega arith; most = let x = l.most in omega arith; unbound = l.unbound; lower = lower_one from many h bound n l }

by_first : (from many h : ℕ) (bound : ℕ → Option Plug) (rest : Option ℕ) (b : Bool) → is_none (bound from) ≡ b → (rest ≡ Some h → IsLeastFrom (from + 1) many h bound)
    → (if b then Some from else rest) ≡ Some h → IsLeastFrom from (suc many) h bound
by_first from many h bound rest true t l f = first_is_least from many h bound t cc
by_first from many h bound rest false t l f = later_is_least from many h bound t (l f)

-- what is found is the least
pub least_from-Some : (from many h : ℕ) (bound : ℕ → Option Plug) → least_unbound_from from many bound ≡ Some h → IsLeastFrom from many h bound
unfolding least_unbound_from
least_from-Some from zero h bound e = absurd cc
least_from-Some from (suc many) h bound e = by_first from many h bound (least_unbound_from (from + 1) many bound) (is_none (bound from)) refl (least_from-Some (from + 1) many h bound) e

-- where none is found each of them is bound
pub least_from-None : (from many : ℕ) (bound : ℕ → Option Plug) → least_unbound_from from many bound ≡ None → (h : ℕ) → from ≤ h → h < from + many → (plug : Plug) × (bound h ≡ Some plug)
unfolding least_unbound_from
least_from-None from zero bound e h a b = absurd (omega arith)
least_from-None from (suc many) bound e h a b = by_test (is_none (bound from)) refl e
    (λ f k. least_from-None (from + 1) many bound f h k (omega arith)) (eq-or-lt_of_le a)
  where
    by_test : (t : Bool) → is_none (bound from) ≡ t → (if t then Some from else least_unbound_from (from + 1) many bound) ≡ None
        → (least_unbound_from (from + 1) many bound ≡ None → from + 1 ≤ h → (plug : Plug) × (bound h ≡ Some plug)) → (from ≡ h) ⊎ (from < h) → (plug : Plug) × (bound h ≡ Some plug)
    by_test true t e rest p = absurd cc
    by_test false t e rest (inl same) = rw (sym same) (some_plug (bound from) t)
    by_test false t e rest (inr later) = rest e (omega arith)
