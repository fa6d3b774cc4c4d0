-- Each task that is put where the rule allows it has the address to which its post's handle is bound.
use Rattle.std.proofs.Common.{◌≡◌, ◌⊎◌, inr, ℕ, false, List, [], ◌∷◌, Option, Some, None, refl, sym, ◌∙◌, ap, arith}
use Rattle.std.proofs.lemmas.Grind.{common_steps}
use Rattle.mpt_trace.specs.declared.item.Item.TheVariants as item
use Rattle.mpt_trace.specs.declared.item.Out.TheVariants as out
use Rattle.mpt_trace.specs.declared.entry.Entry.{Entry}
use Rattle.mpt_trace.specs.declared.entry.Entry.TheVariants as entry
use Rattle.mpt_wire.specs.Walks.Passes.{Passes, state_after}
use Rattle.mpt_wire.specs.Handles.Names.{Aimed}
use Rattle.mpt_wire.specs.Handles.Bindings.{Plug, bound_after, bound_next}
use Rattle.mpt_wire.specs.Handles.Pages.{IsBoundAt, address_of, is_aimed_as, aimed_in_put}
use Rattle.mpt_wire.specs.Handles.Tasks.{Aiming, IsAt, IsPostedTo, TaskAsks, TasksGoToBindings, aiming_next, handle_posted, nothing_aimed}
use Rattle.mpt_wire.proofs.Bindings.{is_bound_to}
use Rattle.mpt_wire.proofs.Lasting.{asked_in, lasts}

-- the first of the rule's states is what each handle is bound to
bound_of : (g : Aiming) (t : List Entry) → (state_after aiming_next g t).bound ≡ state_after bound_next g.bound t
bound_of g [] = refl
bound_of g (e ∷ t) = bound_of (aiming_next g e) t

abbrev Has : ℕ → ℕ → Aiming → Type 0
Has s h g = g.handle s ≡ Some h

abbrev Puts : ℕ → ℕ → Entry → Type 0
Puts s h e = aimed_in_put e ≡ Some (record { smid = s; handle = h })

by_post : (s h : ℕ) (handle : ℕ → Option ℕ) (post : Option Aimed) → handle_posted handle post s ≡ Some h
    → (post ≡ Some (record { smid = s; handle = h })) ⊎ ((handle s ≡ Some h) × (is_aimed_as s post ≡ false))
by_post s h handle None f = inr (f, refl)
by_post s h handle (Some post) f = grind (arith, common_steps)

came_from : (s h : ℕ) (g : Aiming) (e : Entry) → Has s h (aiming_next g e) → Puts s h e ⊎ (Has s h g × (is_aimed_as s (aimed_in_put e) ≡ false))
came_from s h g e f = by_post s h g.handle (aimed_in_put e) f

-- an address that a handle has is that of its plug
pub bound_at : (before : List Entry) (h address : ℕ) → address_of (bound_after before h) ≡ Some address → IsBoundAt before h address
bound_at before h address e = by_plug (bound_after before h) refl e
  where
    by_plug : (o : Option Plug) → bound_after before h ≡ o → address_of o ≡ Some address → IsBoundAt before h address
    by_plug None f a = absurd cc
    by_plug (Some plug) f a = let same : plug.address ≡ address = cc in (plug.number, is_bound_to before h (record { address = address; number = plug.number }) (f ∙ ap (λ x. Some (record { address = x; number = plug.number })) same))

aimed : (before : List Entry) (s address : ℕ) (o : Option ℕ) → (state_after aiming_next nothing_aimed before).handle s ≡ o → IsAt (bound_after before) address o
    → (h : ℕ) × IsPostedTo before s h × IsBoundAt before h address
aimed before s address None f a = absurd a
aimed before s address (Some h) f a =
    (h, lasts aiming_next (Has s h) (Puts s h) (λ e. is_aimed_as s (aimed_in_put e)) (came_from s h) nothing_aimed (λ e. cc) before f, bound_at before h address a)

-- what passes the rule sends tasks to the addresses of their posts' handles
pub tasks_go_to_bindings : (t : List Entry) → Passes aiming_next TaskAsks nothing_aimed t → TasksGoToBindings t
tasks_go_to_bindings t p before after lane s address command split =
    let a = asked_in aiming_next TaskAsks nothing_aimed t before after (entry.Put lane (item.Out (out.Task s address command))) p split in
    aimed before s address ((state_after aiming_next nothing_aimed before).handle s) refl (rw (sym (bound_of nothing_aimed before)) a)
