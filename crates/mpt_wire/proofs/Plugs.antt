-- Plugs that pass the rule are bound to the least unbound handle, and at once where one is unbound.
use Rattle.std.proofs.Common.{◌≡◌, ◌⊎◌, inl, inr, ℕ, ◌≤◌, ◌<◌, Bool, true, false, List, [], ◌∷◌, ◌++◌, filter, Option, Some, None, refl, sym, ◌∙◌, ap, subst, arith, if◌then◌else◌}
use Rattle.std.specs.Bool.{MatchBool}
use Rattle.mpt_trace.specs.declared.lane.LaneName.TheVariants as lane
use Rattle.mpt_trace.specs.declared.item.Item.TheVariants as item
use Rattle.mpt_trace.specs.declared.item.Back.TheVariants as back
use Rattle.mpt_trace.specs.declared.entry.Entry.{Entry}
use Rattle.mpt_trace.specs.declared.entry.Entry.TheVariants as entry
use Rattle.mpt_wire.specs.Walks.Passes.{Passes, state_after}
use Rattle.mpt_wire.specs.Walks.Lasting.{never}
use Rattle.mpt_wire.specs.Handles.Names.{is_controllers}
use Rattle.mpt_wire.specs.Handles.Bindings.{IsBoundTo, Plug, bound_after, bound_next, least_unbound_in}
use Rattle.mpt_wire.specs.Handles.Plugs.{Binds, BindsLeast, BindsPlug, DueAsks, IsBoundNext, IsDropped, IsUnbindAll, ServedAsks, Serving, WasTaken, first_of, is_of_other, nothing_bound, plug_of_entry, plug_served, plug_taken, served_next, is_linked_taken, without_address}
use Rattle.mpt_wire.proofs.Bindings.{IsLeastFrom, is_bound_to, is_unbound, least_from-Some}
use Rattle.mpt_wire.proofs.Lasting.{holds, lasts}

abbrev pub after : List Entry → Serving
after before = state_after served_next nothing_bound before

-- ---- what is bound

served_keeps : (g : Serving) (plug : Plug) (o : Option ℕ) → (plug_served g plug o).bound ≡ g.bound
served_keeps g plug None = refl
served_keeps g plug (Some h) = refl

taken_keeps : (g : Serving) (plug : Plug) (b : Bool) → (plug_taken g plug b).bound ≡ g.bound
taken_keeps g plug true = refl
taken_keeps g plug false = served_keeps g plug (least_unbound_in g.bound)

binds_alike : (g : Serving) (e : Entry) → (served_next g e).bound ≡ bound_next g.bound e
binds_alike g (entry.Take lane.Back (item.Back (back.Plugged address plug expander phy))) = taken_keeps g (record { address = address; number = plug }) g.dropping
binds_alike g _ = refl

bound_alike : (g : Serving) (t : List Entry) → (state_after served_next g t).bound ≡ state_after bound_next g.bound t
bound_alike g [] = refl
bound_alike g (e ∷ t) = bound_alike (served_next g e) t ∙ ap (λ b. state_after bound_next b t) (binds_alike g e)

pub bound_there : (before : List Entry) → (after before).bound ≡ bound_after before
bound_there before = bound_alike nothing_bound before

-- ---- whether plugs are dropped

served_drops : (g : Serving) (plug : Plug) (o : Option ℕ) → (plug_served g plug o).dropping ≡ g.dropping
served_drops g plug None = refl
served_drops g plug (Some h) = refl

taken_drops : (g : Serving) (plug : Plug) (b : Bool) → (plug_taken g plug b).dropping ≡ g.dropping
taken_drops g plug true = refl
taken_drops g plug false = served_drops g plug (least_unbound_in g.bound)

drop_came : (g : Serving) (e : Entry) → (served_next g e).dropping ≡ true → IsUnbindAll e ⊎ ((g.dropping ≡ true) × (is_linked_taken e ≡ false))
drop_came g entry.UnbindAll f = inl tt
drop_came g (entry.Take lane.Back (item.Back (back.Plugged address plug expander phy))) f = inr (sym (taken_drops g (record { address = address; number = plug }) g.dropping) ∙ f, refl)
drop_came g (entry.Take lane.Back (item.Back (back.Linked generation))) f = absurd cc
drop_came g _ f = inr (f, refl)

pub is_dropped : (before : List Entry) → (after before).dropping ≡ true → IsDropped before
is_dropped before f = lasts served_next (λ g. g.dropping ≡ true) IsUnbindAll is_linked_taken drop_came nothing_bound (λ e. cc) before f

drop_comes : (g : Serving) (e : Entry) → IsUnbindAll e → (served_next g e).dropping ≡ true
drop_comes g entry.UnbindAll m = refl
drop_comes g _ m = absurd m

drop_stays : (g : Serving) (e : Entry) → g.dropping ≡ true → is_linked_taken e ≡ false → (served_next g e).dropping ≡ true
drop_stays g entry.UnbindAll f n = refl
drop_stays g (entry.Take lane.Back (item.Back (back.Plugged address plug expander phy))) f n = taken_drops g (record { address = address; number = plug }) g.dropping ∙ f
drop_stays g (entry.Take lane.Back (item.Back (back.Linked generation))) f n = absurd cc
drop_stays g _ f n = f

pub dropped : (before : List Entry) → IsDropped before → (after before).dropping ≡ true
dropped before l = holds served_next (λ g. g.dropping ≡ true) IsUnbindAll is_linked_taken drop_comes drop_stays nothing_bound before l

-- ---- what is due or waits was taken

abbrev pub In : Plug → List Plug → Type 0
In plug [] = ⊥
In plug (x ∷ xs) = (x ≡ plug) ⊎ In plug xs

abbrev Known : Plug → Serving → Type 0
Known plug g = (g.due ≡ Some plug) ⊎ In plug g.waiting

pub in_filter : (test : Plug → Bool) (plug : Plug) (xs : List Plug) → In plug (filter test xs) → In plug xs
in_filter test plug [] i = i
in_filter test plug (x ∷ xs) i = by_test (test x) (in_filter test plug xs) i
  where
    by_test : (b : Bool) → (In plug (filter test xs) → In plug xs) → In plug (if b then x ∷ filter test xs else filter test xs) → (x ≡ plug) ⊎ In plug xs
    by_test true rest (inl e) = inl e
    by_test true rest (inr i) = inr (rest i)
    by_test false rest i = inr (rest i)

pub in_end : (plug new : Plug) (xs : List Plug) → In plug (xs ++ new ∷ []) → (new ≡ plug) ⊎ In plug xs
in_end plug new [] i = i
in_end plug new (x ∷ xs) (inl e) = inr (inl e)
in_end plug new (x ∷ xs) (inr i) = put_in (in_end plug new xs i)
  where
    put_in : (new ≡ plug) ⊎ In plug xs → (new ≡ plug) ⊎ ((x ≡ plug) ⊎ In plug xs)
    put_in (inl e) = inl e
    put_in (inr i) = inr (inr i)

in_first : (plug : Plug) (xs : List Plug) → first_of xs ≡ Some plug → In plug xs
in_first plug [] e = absurd cc
in_first plug (x ∷ xs) e = inl cc

abbrev Came : Plug → Serving → Entry → Type 0
Came plug g e = (plug_of_entry e ≡ Some plug) ⊎ (Known plug g × (never e ≡ false))

or_known : (plug : Plug) (g : Serving) (e : Entry) → In plug g.waiting → Came plug g e
or_known plug g e i = inr (inr i, refl)

served_came : (plug new : Plug) (g : Serving) (o : Option ℕ) → Known plug (plug_served g new o) → (Some new ≡ Some plug) ⊎ Known plug g
served_came plug new g None (inl e) = inr (inl e)
served_came plug new g None (inr i) = by_end (in_end plug new g.waiting i)
  where
    by_end : (new ≡ plug) ⊎ In plug g.waiting → (Some new ≡ Some plug) ⊎ Known plug g
    by_end (inl e) = inl (ap Some e)
    by_end (inr i) = inr (inr i)
served_came plug new g (Some h) (inl e) = inl e
served_came plug new g (Some h) (inr i) = inr (inr i)

taken_came : (plug new : Plug) (g : Serving) (b : Bool) → Known plug (plug_taken g new b) → (Some new ≡ Some plug) ⊎ Known plug g
taken_came plug new g true k = inr k
taken_came plug new g false k = served_came plug new g (least_unbound_in g.bound) k

plugged_came : (plug : Plug) (g : Serving) (e : Entry) → (plug_of_entry e ≡ Some plug) ⊎ Known plug g → Came plug g e
plugged_came plug g e (inl m) = inl m
plugged_came plug g e (inr k) = inr (k, refl)

bind_came : (plug : Plug) (g : Serving) (e : Entry) (xs : List Plug) → (In plug xs → In plug g.waiting) → (None ≡ Some plug) ⊎ In plug xs → Came plug g e
bind_came plug g e xs f (inl n) = absurd cc
bind_came plug g e xs f (inr i) = or_known plug g e (f i)

unbind_came : (plug : Plug) (g : Serving) (e : Entry) → (first_of g.waiting ≡ Some plug) ⊎ In plug g.waiting → Came plug g e
unbind_came plug g e (inl f) = or_known plug g e (in_first plug g.waiting f)
unbind_came plug g e (inr i) = or_known plug g e i

unplug_came : (plug : Plug) (g : Serving) (e : Entry) (address : ℕ) → (g.due ≡ Some plug) ⊎ In plug (without_address address g.waiting) → Came plug g e
unplug_came plug g e address (inl d) = inr (inl d, refl)
unplug_came plug g e address (inr i) = or_known plug g e (in_filter (is_of_other address) plug g.waiting i)

none_came : (plug : Plug) (g : Serving) (e : Entry) → (None ≡ Some plug) ⊎ ⊥ → Came plug g e
none_came plug g e (inl n) = absurd cc
none_came plug g e (inr i) = absurd i

known_came : (plug : Plug) (g : Serving) (e : Entry) → Known plug (served_next g e) → Came plug g e
known_came plug g (entry.Bind handle address number) k = bind_came plug g (entry.Bind handle address number) (without_address address g.waiting) (in_filter (is_of_other address) plug g.waiting) k
known_came plug g (entry.Unbind handle) k = unbind_came plug g (entry.Unbind handle) k
known_came plug g entry.UnbindAll k = none_came plug g entry.UnbindAll k
known_came plug g (entry.Take lane.Back (item.Back (back.Plugged address number expander phy))) k =
    plugged_came plug g (entry.Take lane.Back (item.Back (back.Plugged address number expander phy))) (taken_came plug (record { address = address; number = number }) g g.dropping k)
known_came plug g (entry.Take lane.Back (item.Back (back.Unplugged address number expander phy))) k = unplug_came plug g (entry.Take lane.Back (item.Back (back.Unplugged address number expander phy))) address k
known_came plug g _ k = inr (k, refl)

not_known : (plug : Plug) → ¬ Known plug nothing_bound
not_known plug (inl n) = absurd cc
not_known plug (inr i) = i

was_taken : (before : List Entry) (plug : Plug) → (after before).due ≡ Some plug → WasTaken before plug
was_taken before plug d = lasts served_next (Known plug) (λ e. plug_of_entry e ≡ Some plug) never (known_came plug) nothing_bound (not_known plug) before (inl d)

-- ---- each bind

pub bind_asked : (g : Serving) (h a k : ℕ) (due : Option Plug) → g.due ≡ due → DueAsks g.bound due (entry.Bind h a k) → (least_unbound_in g.bound ≡ Some h) × (g.due ≡ Some (record { address = a; number = k }))
bind_asked g h a k None d asks = absurd asks
bind_asked g h a k (Some plug) d asks = (asks.0, d ∙ ap Some asks.1)

lower_bound : (before : List Entry) (h : ℕ) → IsLeastFrom 0x0009 64 h (bound_after before) → (k : ℕ) → 0x0009 ≤ k → k < h → (p : Plug) × IsBoundTo before k p
lower_bound before h l k a b = let f = l.lower k a b in (f.0, is_bound_to before k f.0 f.1)

pub binds_least : (before : List Entry) (h : ℕ) (plug : Plug) → least_unbound_in (after before).bound ≡ Some h → (after before).due ≡ Some plug → BindsLeast before h plug
binds_least before h plug least d =
    let l : IsLeastFrom 0x0009 64 h (bound_after before) = least_from-Some 0x0009 64 h (bound_after before) (subst (λ b. least_unbound_in b ≡ Some h) (bound_there before) least) in
    record { handle = (l.least, let m = l.most in omega arith); unbound = is_unbound before h l.unbound; least = lower_bound before h l; taken = was_taken before plug d }

-- ---- a plug that is due is bound next

due_stays : (g : Serving) (e : Entry) → is_controllers e ≡ false → (served_next g e).due ≡ g.due
due_stays g (entry.Bind handle address number) c = absurd cc
due_stays g (entry.Unbind handle) c = absurd cc
due_stays g entry.UnbindAll c = absurd cc
due_stays g (entry.Take lane.Back (item.Back (back.Plugged address number expander phy))) c = absurd cc
due_stays g _ c = refl

binds_it : (bound : ℕ → Option Plug) (plug : Plug) (e : Entry) → Binds bound plug e → BindsPlug plug e
binds_it bound plug (entry.Bind handle address number) b = b.1
binds_it bound plug _ b = absurd b

pub due_bound : (g : Serving) (plug : Plug) (t : List Entry) → g.due ≡ Some plug → Passes served_next ServedAsks g t → (state_after served_next g t).due ≡ None → IsBoundNext plug t
due_bound g plug [] d p n = absurd cc
due_bound g plug (e ∷ t) d p n = by_party (is_controllers e) refl (subst (λ o. DueAsks g.bound o e) d p.0) (λ f. due_bound (served_next g e) plug t f p.1 n)
  where
    by_party : (b : Bool) → is_controllers e ≡ b → MatchBool b (Binds g.bound plug e) (Unit {0}) → ((served_next g e).due ≡ Some plug → IsBoundNext plug t) → IsBoundNext plug (e ∷ t)
    by_party true c a rest = record { between = []; bind = e; rest = t; split = refl; others = refl; binds = binds_it g.bound plug e a }
    by_party false c a rest = let r = rest (due_stays g e c ∙ d) in record { between = e ∷ r.between; bind = r.bind; rest = r.rest; split = ap (λ x. e ∷ x) r.split; others = rw c r.others; binds = r.binds }
