-- Each handle that is freed where the rule allows it has a remove device that is being done.
use Rattle.std.proofs.Common.{◌≡◌, ◌⊎◌, inl, inr, ℕ, false, List, Option, Some, None, refl, arith}
use Rattle.std.proofs.lemmas.Grind.{common_steps}
use Rattle.mpt_trace.specs.declared.item.Item.TheVariants as item
use Rattle.mpt_trace.specs.declared.entry.Entry.{Entry}
use Rattle.mpt_trace.specs.declared.entry.Entry.TheVariants as entry
use Rattle.mpt_wire.specs.Walks.Passes.{Passes}
use Rattle.mpt_wire.specs.Handles.Names.{Aimed, removal_posted, reply_smid_in}
use Rattle.mpt_wire.specs.Handles.Removals.{UnbindAsks, UnbindsAreRemovals, is_removal_end, is_same_number, no_removals, removal_began, removal_ended, removal_taken, removals_next}
use Rattle.mpt_wire.proofs.Lasting.{asked_in, lasts}

abbrev Has : ℕ → ℕ → (ℕ → Option ℕ) → Type 0
Has s h removals = removals s ≡ Some h

abbrev Takes : ℕ → ℕ → Entry → Type 0
Takes s h e = removal_taken e ≡ Some (record { smid = s; handle = h })

by_post : (s h : ℕ) (removals : ℕ → Option ℕ) (post : Option Aimed) → removal_began removals post s ≡ Some h
    → (post ≡ Some (record { smid = s; handle = h })) ⊎ (removals s ≡ Some h)
by_post s h removals None f = inr f
by_post s h removals (Some post) f = grind (arith, common_steps)

by_reply : (s h : ℕ) (removals : ℕ → Option ℕ) (reply : Option ℕ) → removal_ended removals reply s ≡ Some h → (removals s ≡ Some h) × (is_same_number s reply ≡ false)
by_reply s h removals None f = (f, refl)
by_reply s h removals (Some q) f = (grind (arith, common_steps), grind (arith, common_steps))

unended : (s h : ℕ) (removals : ℕ → Option ℕ) (o : Option Aimed) → (o ≡ Some (record { smid = s; handle = h })) ⊎ (removals s ≡ Some h)
    → (o ≡ Some (record { smid = s; handle = h })) ⊎ ((removals s ≡ Some h) × (false ≡ false))
unended s h removals o (inl m) = inl m
unended s h removals o (inr f) = inr (f, refl)

came_from : (s h : ℕ) (removals : ℕ → Option ℕ) (e : Entry) → Has s h (removals_next removals e) → Takes s h e ⊎ (Has s h removals × (is_removal_end s e ≡ false))
came_from s h removals (entry.Take lane (item.Down i)) f = unended s h removals (removal_posted i) (by_post s h removals (removal_posted i) f)
came_from s h removals (entry.Put lane (item.Up i)) f = inr (by_reply s h removals (reply_smid_in i) f)
came_from s h removals entry.UnbindAll f = absurd cc
came_from s h removals _ f = inr (f, refl)

-- what passes the rule frees handles by remove devices alone
pub unbinds_are_removals : (t : List Entry) → Passes removals_next UnbindAsks no_removals t → UnbindsAreRemovals t
unbinds_are_removals t p before after h split =
    let a = asked_in removals_next UnbindAsks no_removals t before after (entry.Unbind h) p split in
    (a.0, lasts removals_next (Has a.0 h) (Takes a.0 h) (is_removal_end a.0) (came_from a.0 h) no_removals (λ e. cc) before a.1)
