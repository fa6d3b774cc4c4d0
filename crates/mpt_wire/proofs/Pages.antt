-- Pages that pass the rules are of the bindings, and posts go to the handle of their disk's page.
use Rattle.std.proofs.Common.{◌≡◌, ◌⊎◌, inl, inr, ℕ, Bool, true, false, List, ◌∷◌, ◌++◌, Option, Some, None, refl, sym, ◌∙◌, ap, subst, arith, if◌then◌else◌}
use Rattle.std.specs.List.{list_any}
use Rattle.std.proofs.lemmas.Grind.{common_steps}
use Rattle.mpt_trace.specs.declared.item.Item.TheVariants as item
use Rattle.mpt_trace.specs.declared.entry.Entry.{Entry}
use Rattle.mpt_trace.specs.declared.entry.Entry.TheVariants as entry
use Rattle.mpt_wire.specs.Walks.Passes.{Passes, state_after}
use Rattle.mpt_wire.specs.Messages.Fields.{Change}
use Rattle.mpt_wire.specs.Handles.Names.{Aimed, Disk, changes_told, page_carried}
use Rattle.mpt_wire.specs.Handles.Bindings.{Plug, bound_after, bound_next}
use Rattle.mpt_wire.specs.Handles.Pages.{GoesTo, HasPage, IsAimedWell, IsItsHandle, IsPageOfBinding, PageAsks, Paged, PagedAsks, PagesAreOfBindings, PostsGoToPages, address_of, ends_page, is_gone_change, nothing_paged, page_put, page_taken, paged_next, aimed_in_put, takes_smid, with_page, without_pages}
use Rattle.mpt_wire.proofs.Tasks.{bound_at}
use Rattle.mpt_wire.proofs.Lasting.{asked_at, asked_in, holds, lasts, passes_from, stays}

-- ---- pages that are put

of_binding : (bound : ℕ → Option Plug) (o : Option Disk) (disk : Disk) → o ≡ Some disk → IsPageOfBinding bound o → address_of (bound disk.handle) ≡ Some disk.address
of_binding bound None disk s a = absurd cc
of_binding bound (Some other) disk s a = let same : other ≡ disk = cc in subst (λ d. address_of (bound d.handle) ≡ Some d.address) same a

-- what passes the rule puts pages of the bindings alone
pub pages_are_of_bindings : (t : List Entry) → Passes bound_next PageAsks (λ h. None) t → PagesAreOfBindings t
pages_are_of_bindings t p before after e disk split put =
    bound_at before disk.handle disk.address (of_binding (bound_after before) (page_put e) disk put (asked_in bound_next PageAsks (λ h. None) t before after e p split))

-- ---- pages that are taken

abbrev Has : ℕ → ℕ → Paged → Type 0
Has h a g = g.pages h a ≡ true

abbrev Takes : ℕ → ℕ → Entry → Type 0
Takes h a e = page_taken e ≡ Some (record { handle = h; address = a })

without : (h a : ℕ) (pages : ℕ → ℕ → Bool) (changes : List Change) → without_pages pages changes h a ≡ true → (pages h a ≡ true) × (list_any (is_gone_change h) changes ≡ false)
without h a pages changes f = by_test (list_any (is_gone_change h) changes) f
  where
    by_test : (b : Bool) → (if b then false else pages h a) ≡ true → (pages h a ≡ true) × (b ≡ false)
    by_test true f = absurd cc
    by_test false f = (f, refl)

with_one : (h a : ℕ) (pages : ℕ → ℕ → Bool) (o : Option Disk) → with_page pages o h a ≡ true → (o ≡ Some (record { handle = h; address = a })) ⊎ (pages h a ≡ true)
with_one h a pages None f = inr f
with_one h a pages (Some disk) f = grind (arith, common_steps)

taken_or_held : (h a : ℕ) (pages : ℕ → ℕ → Bool) (changes : List Change) (o : Option Disk) → (o ≡ Some (record { handle = h; address = a })) ⊎ (without_pages pages changes h a ≡ true)
    → (o ≡ Some (record { handle = h; address = a })) ⊎ ((pages h a ≡ true) × (list_any (is_gone_change h) changes ≡ false))
taken_or_held h a pages changes o (inl m) = inl m
taken_or_held h a pages changes o (inr f) = inr (without h a pages changes f)

came_from : (h a : ℕ) (g : Paged) (e : Entry) → Has h a (paged_next g e) → Takes h a e ⊎ (Has h a g × (ends_page h e ≡ false))
came_from h a g (entry.Take lane (item.Up i)) f =
    taken_or_held h a g.pages (changes_told i) (page_carried i) (with_one h a (without_pages g.pages (changes_told i)) (page_carried i) f)
came_from h a g entry.ResetDone f = absurd cc
came_from h a g _ f = inr (f, refl)

same_page : (h a : ℕ) (pages : ℕ → ℕ → Bool) (o : Option Disk) → o ≡ Some (record { handle = h; address = a }) → with_page pages o h a ≡ true
same_page h a pages None m = absurd cc
same_page h a pages (Some disk) m = let b : disk.handle ≡ h = cc in let c : disk.address ≡ a = cc in grind (arith, common_steps)

comes_to : (h a : ℕ) (g : Paged) (e : Entry) → Takes h a e → Has h a (paged_next g e)
comes_to h a g (entry.Take lane (item.Up i)) m = same_page h a (without_pages g.pages (changes_told i)) (page_carried i) m
comes_to h a g _ m = absurd cc

still : (h a : ℕ) (pages : ℕ → ℕ → Bool) (o : Option Disk) → pages h a ≡ true → with_page pages o h a ≡ true
still h a pages None f = f
still h a pages (Some disk) f = grind (arith, common_steps)

not_without : (h a : ℕ) (pages : ℕ → ℕ → Bool) (changes : List Change) → pages h a ≡ true → list_any (is_gone_change h) changes ≡ false → without_pages pages changes h a ≡ true
not_without h a pages changes f n = rw n f

stays_so : (h a : ℕ) (g : Paged) (e : Entry) → Has h a g → ends_page h e ≡ false → Has h a (paged_next g e)
stays_so h a g (entry.Take lane (item.Up i)) f n = still h a (without_pages g.pages (changes_told i)) (page_carried i) (not_without h a g.pages (changes_told i) f n)
stays_so h a g entry.ResetDone f n = absurd cc
stays_so h a g _ f n = f

abbrev after : List Entry → Paged
after before = state_after paged_next nothing_paged before

has_page : (before : List Entry) (h a : ℕ) → (after before).pages h a ≡ true → HasPage before h a
has_page before h a f = lasts paged_next (Has h a) (Takes h a) (ends_page h) (came_from h a) nothing_paged (λ e. cc) before f

page_had : (before : List Entry) (h a : ℕ) → HasPage before h a → (after before).pages h a ≡ true
page_had before h a l = holds paged_next (Has h a) (Takes h a) (ends_page h) (comes_to h a) (stays_so h a) nothing_paged before l

its_handle : (before : List Entry) (n a s h : ℕ) → PagedAsks (after before) (entry.Accept n a s) → (after before).pages h a ≡ true → IsItsHandle before a h
its_handle before n a s h asks f = record { has = has_page before h a f; only = λ other l. asks.2 other (page_had before other a l) ∙ sym (asks.2 h f) }

-- ---- the post of a submission

stays_chosen : (s : ℕ) (c : ℕ → Bool) (g : Paged) (e : Entry) → g.chosen s ≡ Some c → takes_smid s e ≡ false → (paged_next g e).chosen s ≡ Some c
stays_chosen s c g (entry.Accept n a smid) f b = grind (arith, common_steps)
stays_chosen s c g (entry.Take lane (item.Up i)) f b = f
stays_chosen s c g _ f b = f

chosen_at : (s n a : ℕ) (g : Paged) → (paged_next g (entry.Accept n a s)).chosen s ≡ Some (λ h. g.pages h a)
chosen_at s n a g = grind (arith, common_steps)

goes_there : (o : Option Aimed) (chosen : ℕ → Option (ℕ → Bool)) (s h : ℕ) (c : ℕ → Bool) → o ≡ Some (record { smid = s; handle = h }) → chosen s ≡ Some c → IsAimedWell chosen o → c h ≡ true
goes_there None chosen s h c m f a = absurd cc
goes_there (Some post) chosen s h c m f a = let x : post.smid ≡ s = cc in let y : post.handle ≡ h = cc in subst (λ k. c k ≡ true) y (subst (λ o. GoesTo o post.handle) (ap chosen x ∙ f) a)

asked_post : (g : Paged) (e : Entry) (s h : ℕ) → aimed_in_put e ≡ Some (record { smid = s; handle = h }) → PagedAsks g e → IsAimedWell g.chosen (aimed_in_put e)
asked_post g (entry.Put lane (item.Down i)) s h m a = a
asked_post g _ s h m a = absurd cc

-- the post of an accepted submission goes to a handle that has the page
had_page : (before between behind : List Entry) (n a s h : ℕ) (e : Entry) → Passes paged_next PagedAsks (paged_next (after before) (entry.Accept n a s)) (between ++ e ∷ behind)
    → list_any (takes_smid s) between ≡ false → aimed_in_put e ≡ Some (record { smid = s; handle = h }) → (after before).pages h a ≡ true
had_page before between behind n a s h e p none put =
    let g : Paged = paged_next (after before) (entry.Accept n a s) in
    let c : ℕ → Bool = λ k. (after before).pages k a in
    let at_post : Paged = state_after paged_next g between in
    let chosen : at_post.chosen s ≡ Some c = stays paged_next (λ x. x.chosen s ≡ Some c) (λ x. ⊥) (takes_smid s) (stays_chosen s c) g between (chosen_at s n a (after before)) none in
    goes_there (aimed_in_put e) at_post.chosen s h c put chosen (asked_post at_post e s h put (asked_at paged_next PagedAsks g between behind e p))

-- what passes the rule accepts submissions where one handle has the page, and posts to this handle
pub posts_go_to_pages : (t : List Entry) → Passes paged_next PagedAsks nothing_paged t → PostsGoToPages t
posts_go_to_pages t p = record {
  one = λ before behind n a s split. let asks = asked_in paged_next PagedAsks nothing_paged t before behind (entry.Accept n a s) p split in (asks.0, its_handle before n a s asks.0 asks asks.1);
  post = λ before between behind n a s e h split none put.
      its_handle before n a s h (asked_in paged_next PagedAsks nothing_paged t before (between ++ e ∷ behind) (entry.Accept n a s) p split)
      (had_page before between behind n a s h e (passes_from paged_next PagedAsks nothing_paged t before (between ++ e ∷ behind) (entry.Accept n a s) p split) none put);
}
