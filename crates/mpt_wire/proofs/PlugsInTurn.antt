-- A handle that is freed goes to the address that has waited longest.
use Rattle.std.proofs.Common.{◌≡◌, ◌⊎◌, inl, inr, ℕ, ◌≤◌, Bool, true, false, ◌==◌, ◌||◌, List, [], ◌∷◌, ◌++◌, filter, length, Option, Some, None, refl, ◌∙◌, ap, subst, append_assoc, arith, if◌then◌else◌}
use Rattle.std.specs.List.{list_any}
use Rattle.std.proofs.lemmas.Grind.{common_steps}
use Rattle.mpt_trace.specs.declared.lane.LaneName.TheVariants as lane
use Rattle.mpt_trace.specs.declared.item.Item.TheVariants as item
use Rattle.mpt_trace.specs.declared.item.Back.TheVariants as back
use Rattle.mpt_trace.specs.declared.entry.Entry.{Entry}
use Rattle.mpt_trace.specs.declared.entry.Entry.TheVariants as entry
use Rattle.mpt_wire.specs.Walks.Passes.{state_after}
use Rattle.mpt_wire.specs.Walks.Lasting.{Lasts}
use Rattle.mpt_wire.specs.Handles.Bindings.{IsDiskHandle, IsUnbound, Plug, bound_after, least_unbound_in}
use Rattle.mpt_wire.specs.Handles.Plugs.{IsDropped, PlugsAreServed, ServedAsks, Serving, ServesPlugs, Waits, WaitsLongest, ends_waiting, first_of, is_of_other, nothing_bound, plug_of_entry, plug_served, plug_taken, served_next, without_address}
use Rattle.mpt_wire.proofs.Bindings.{IsLeastFrom, is_bound_to, is_unbound, least_from-None, least_from-Some}
use Rattle.mpt_wire.proofs.Lasting.{MadeAt, after_split, asked_in, made_at, passes_from}
use Rattle.mpt_wire.proofs.Plugs.{In, after, bind_asked, binds_least, bound_there, due_bound, dropped, in_end, is_dropped}

other_address : (address : ℕ) (x plug : Plug) → is_of_other address x ≡ true → x ≡ plug → (address == plug.address) ≡ false
other_address address x plug t e = let same : x.address ≡ plug.address = ap (λ p. p.address) e in grind (arith, common_steps)

-- ---- what is bound next, where a plug is taken

-- no handle is unbound, and plugs aren't dropped
abbrev IsFull : Serving → Type 0
IsFull g = (g.dropping ≡ false) × (least_unbound_in g.bound ≡ None)

not_dropping : (before : List Entry) → ¬ IsDropped before → (after before).dropping ≡ false
not_dropping before n = by_bool (after before).dropping refl
  where
    by_bool : (b : Bool) → (after before).dropping ≡ b → b ≡ false
    by_bool true e = absurd (n (is_dropped before e))
    by_bool false e = refl

some_unbound : (before : List Entry) (h : ℕ) → IsDiskHandle h → IsUnbound before h → (k : ℕ) × (least_unbound_in (after before).bound ≡ Some k)
some_unbound before h d u = by_least (least_unbound_in (after before).bound) refl
  where
    by_least : (o : Option ℕ) → least_unbound_in (after before).bound ≡ o → (k : ℕ) × (o ≡ Some k)
    by_least (Some k) e = (k, refl)
    by_least None e =
        let full = least_from-None 0x0009 64 (bound_after before) (subst (λ b. least_unbound_in b ≡ None) (bound_there before) e) h d.0 (let m = d.1 in omega arith) in
        absurd (u full.0 (is_bound_to before h full.0 full.1))

due_at_once : (g : Serving) (plug : Plug) (k : ℕ) (e : Entry) → plug_of_entry e ≡ Some plug → g.dropping ≡ false → least_unbound_in g.bound ≡ Some k → (served_next g e).due ≡ Some plug
due_at_once g plug k (entry.Take lane.Back (item.Back (back.Plugged address number expander phy))) m d l =
    let same : Some (record { address = address; number = number }) ≡ Some plug = m in
    rw (d, l) same
due_at_once g plug k _ m d l = absurd cc

ends_there : (t before behind : List Entry) (e : Entry) → t ≡ before ++ e ∷ behind → (after t).due ≡ None → (state_after served_next (served_next (after before) e) behind).due ≡ None
ends_there t before behind e split n = subst (λ g. g.due ≡ None) (ap after split ∙ after_split served_next nothing_bound before behind e) n

is_served : (before : List Entry) → IsFull (after before) → ¬ IsDropped before
is_served before f d = let e = dropped before d in let n = f.0 in cc

is_full : (before : List Entry) → IsFull (after before) → (h : ℕ) → IsDiskHandle h → ¬ IsUnbound before h
is_full before f h d u = let least = some_unbound before h d u in let e = least.1 in let n = f.1 in cc

-- ---- the waiting list

abbrev no_handle : Option ℕ
no_handle = None

served_waits : (plug new : Plug) (g : Serving) (o : Option ℕ) → In plug (plug_served g new o).waiting → ((new ≡ plug) × (o ≡ no_handle)) ⊎ In plug g.waiting
served_waits plug new g None i = by_end (in_end plug new g.waiting i)
  where
    by_end : (new ≡ plug) ⊎ In plug g.waiting → ((new ≡ plug) × (no_handle ≡ no_handle)) ⊎ In plug g.waiting
    by_end (inl s) = inl (s, refl)
    by_end (inr i) = inr i
served_waits plug new g (Some h) i = inr i

taken_waits : (plug new : Plug) (g : Serving) (b : Bool) → In plug (plug_taken g new b).waiting → ((new ≡ plug) × (b ≡ false) × (least_unbound_in g.bound ≡ no_handle)) ⊎ In plug g.waiting
taken_waits plug new g true i = inr i
taken_waits plug new g false i = by_served (served_waits plug new g (least_unbound_in g.bound) i)
  where
    by_served : ((new ≡ plug) × (least_unbound_in g.bound ≡ no_handle)) ⊎ In plug g.waiting → ((new ≡ plug) × (false ≡ false) × (least_unbound_in g.bound ≡ no_handle)) ⊎ In plug g.waiting
    by_served (inl s) = inl (s.0, refl, s.1)
    by_served (inr i) = inr i

in_others : (address : ℕ) (plug : Plug) (xs : List Plug) → In plug (without_address address xs) → In plug xs × ((address == plug.address) ≡ false)
in_others address plug [] i = absurd i
in_others address plug (x ∷ xs) i = by_test (is_of_other address x) refl (in_others address plug xs) i
  where
    by_test : (b : Bool) → is_of_other address x ≡ b → (In plug (without_address address xs) → In plug xs × ((address == plug.address) ≡ false))
        → In plug (if b then x ∷ without_address address xs else without_address address xs) → In plug (x ∷ xs) × ((address == plug.address) ≡ false)
    by_test true t rest (inl e) = (inl e, other_address address x plug t e)
    by_test true t rest (inr i) = let r = rest i in (inr r.0, r.1)
    by_test false t rest i = let r = rest i in (inr r.0, r.1)

-- what waits after an entry was taken there, or waited before and isn't ended
abbrev WaitCame : Plug → Serving → Entry → Type 0
WaitCame plug g e = ((plug_of_entry e ≡ Some plug) × IsFull g) ⊎ (In plug g.waiting × (ends_waiting plug.address e ≡ false))

plugged_came : (plug new : Plug) (g : Serving) (e : Entry) → plug_of_entry e ≡ Some new → ends_waiting plug.address e ≡ false
    → ((new ≡ plug) × (g.dropping ≡ false) × (least_unbound_in g.bound ≡ no_handle)) ⊎ In plug g.waiting → WaitCame plug g e
plugged_came plug new g e m n (inl s) = inl (m ∙ ap Some s.0, (s.1, s.2))
plugged_came plug new g e m n (inr i) = inr (i, n)

wait_came : (plug : Plug) (g : Serving) (e : Entry) → In plug (served_next g e).waiting → WaitCame plug g e
wait_came plug g (entry.Bind handle address number) i = inr (in_others address plug g.waiting i)
wait_came plug g entry.UnbindAll i = absurd i
wait_came plug g (entry.Take lane.Back (item.Back (back.Plugged address number expander phy))) i =
    plugged_came plug (record { address = address; number = number }) g (entry.Take lane.Back (item.Back (back.Plugged address number expander phy))) refl refl
    (taken_waits plug (record { address = address; number = number }) g g.dropping i)
wait_came plug g (entry.Take lane.Back (item.Back (back.Unplugged address number expander phy))) i = inr (in_others address plug g.waiting i)
wait_came plug g _ i = inr (i, refl)

-- each plug in the list waits
waits_there : (before : List Entry) (plug : Plug) → In plug (after before).waiting → Waits before plug
waits_there before plug i = by_made (made_at served_next (λ g. In plug g.waiting) IsFull (λ e. plug_of_entry e ≡ Some plug) (ends_waiting plug.address) (wait_came plug) nothing_bound before i)
  where
    by_made : MadeAt served_next (λ g. In plug g.waiting) IsFull (λ e. plug_of_entry e ≡ Some plug) (ends_waiting plug.address) nothing_bound before ⊎ (⊥ × (list_any (ends_waiting plug.address) before ≡ false)) → Waits before plug
    by_made (inl l) = record { taken = l.0; served = is_served l.0.earlier l.1; full = is_full l.0.earlier l.1 }
    by_made (inr p) = absurd p.0

-- ---- the first of the list is the longest waiting

filter_split : (test : Plug → Bool) (xs ys : List Plug) (plug : Plug) → test plug ≡ true → filter test (xs ++ plug ∷ ys) ≡ filter test xs ++ plug ∷ filter test ys
filter_split test [] ys plug t = rw t refl
filter_split test (x ∷ xs) ys plug t = by_test (test x) (filter_split test xs ys plug t)
  where
    by_test : (b : Bool) → filter test (xs ++ plug ∷ ys) ≡ filter test xs ++ plug ∷ filter test ys
        → (if b then x ∷ filter test (xs ++ plug ∷ ys) else filter test (xs ++ plug ∷ ys)) ≡ (if b then x ∷ filter test xs else filter test xs) ++ plug ∷ filter test ys
    by_test true e = ap (λ l. x ∷ l) e
    by_test false e = e

-- what is left in the list before the plug after an entry
record Left (plug : Plug) (e : Entry) (xs waiting : List Plug) : Type 0 where
  first : List Plug
  rest : List Plug
  split : waiting ≡ first ++ plug ∷ rest
  kept : (x : Plug) → In x first → In x xs × (ends_waiting x.address e ≡ false)

left_alike : (plug : Plug) (e : Entry) (xs ys waiting : List Plug) → waiting ≡ xs ++ plug ∷ ys → ((x : Plug) → ends_waiting x.address e ≡ false) → Left plug e xs waiting
left_alike plug e xs ys waiting s n = record { first = xs; rest = ys; split = s; kept = λ x i. (i, n x) }

left_others : (plug : Plug) (e : Entry) (address : ℕ) (xs ys waiting : List Plug) → waiting ≡ xs ++ plug ∷ ys → (address == plug.address) ≡ false
    → ((x : Plug) → (address == x.address) ≡ false → ends_waiting x.address e ≡ false) → Left plug e xs (without_address address waiting)
left_others plug e address xs ys waiting s n f =
    let other : is_of_other address plug ≡ true = grind (arith, common_steps) in
    record {
      first = without_address address xs;
      rest = without_address address ys;
      split = ap (without_address address) s ∙ filter_split (is_of_other address) xs ys plug other;
      kept = λ x i. let r = in_others address x xs i in (r.0, f x r.1);
    }

left_served : (plug new : Plug) (e : Entry) (g : Serving) (o : Option ℕ) (xs ys : List Plug) → g.waiting ≡ xs ++ plug ∷ ys → ((x : Plug) → ends_waiting x.address e ≡ false) → Left plug e xs (plug_served g new o).waiting
left_served plug new e g None xs ys s n = left_alike plug e xs (ys ++ new ∷ []) (g.waiting ++ new ∷ []) (ap (λ l. l ++ new ∷ []) s ∙ append_assoc xs (plug ∷ ys) (new ∷ [])) n
left_served plug new e g (Some h) xs ys s n = left_alike plug e xs ys g.waiting s n

left_taken : (plug new : Plug) (e : Entry) (g : Serving) (b : Bool) (xs ys : List Plug) → g.waiting ≡ xs ++ plug ∷ ys → ((x : Plug) → ends_waiting x.address e ≡ false) → Left plug e xs (plug_taken g new b).waiting
left_taken plug new e g true xs ys s n = left_alike plug e xs ys g.waiting s n
left_taken plug new e g false xs ys s n = left_served plug new e g (least_unbound_in g.bound) xs ys s n

left_after : (plug : Plug) (g : Serving) (e : Entry) (xs ys : List Plug) → g.waiting ≡ xs ++ plug ∷ ys → ends_waiting plug.address e ≡ false → Left plug e xs (served_next g e).waiting
left_after plug g (entry.Bind handle address number) xs ys s n = left_others plug (entry.Bind handle address number) address xs ys g.waiting s n (λ x f. f)
left_after plug g entry.UnbindAll xs ys s n = absurd cc
left_after plug g (entry.Take lane.Back (item.Back (back.Plugged address number expander phy))) xs ys s n =
    left_taken plug (record { address = address; number = number }) (entry.Take lane.Back (item.Back (back.Plugged address number expander phy))) g g.dropping xs ys s (λ x. refl)
left_after plug g (entry.Take lane.Back (item.Back (back.Unplugged address number expander phy))) xs ys s n =
    left_others plug (entry.Take lane.Back (item.Back (back.Unplugged address number expander phy))) address xs ys g.waiting s n (λ x f. f)
left_after plug g e xs ys s n = left_alike plug e xs ys g.waiting s (λ x. refl)

later_ends : (a b : Bool) → (a || b) ≡ true → a ≡ false → b ≡ true
later_ends false b e n = e
later_ends true b e n = absurd cc

none_ends : (a b : Bool) → (a || b) ≡ false → (a ≡ false) × (b ≡ false)
none_ends false b e = (refl, e)
none_ends true b e = absurd cc

first_is : (plug : Plug) (xs ys waiting : List Plug) → waiting ≡ xs ++ plug ∷ ys → ((x : Plug) → In x xs → false ≡ true) → first_of waiting ≡ Some plug
first_is plug [] ys waiting s none = ap first_of s
first_is plug (x ∷ xs) ys waiting s none = let wrong = none x (inl refl) in absurd cc

-- where all that waited before the plug are ended and it isn't, it is the first
comes_first : (plug : Plug) (g : Serving) (t : List Entry) (xs ys : List Plug) → g.waiting ≡ xs ++ plug ∷ ys → list_any (ends_waiting plug.address) t ≡ false
    → ((x : Plug) → In x xs → list_any (ends_waiting x.address) t ≡ true) → first_of (state_after served_next g t).waiting ≡ Some plug
comes_first plug g [] xs ys s n ended = first_is plug xs ys g.waiting s ended
comes_first plug g (e ∷ t) xs ys s n ended =
    let none = none_ends (ends_waiting plug.address e) (list_any (ends_waiting plug.address) t) n in
    let l = left_after plug g e xs ys s none.0 in
    comes_first plug (served_next g e) t l.first l.rest l.split none.1
    (λ x i. let k = l.kept x i in later_ends (ends_waiting x.address e) (list_any (ends_waiting x.address) t) (ended x k.0) k.1)

plug_ends_none : (a : ℕ) (plug : Plug) (e : Entry) → plug_of_entry e ≡ Some plug → ends_waiting a e ≡ false
plug_ends_none a plug (entry.Take lane.Back (item.Back (back.Plugged address number expander phy))) m = refl
plug_ends_none a plug _ m = absurd cc

any_behind : (test : Entry → Bool) (xs ys : List Entry) (e : Entry) → list_any test xs ≡ false → test e ≡ false → list_any test ys ≡ false → list_any test (xs ++ e ∷ ys) ≡ false
any_behind test [] ys e a b c = rw (b, c) refl
any_behind test (x ∷ xs) ys e a b c = let n = none_ends (test x) (list_any test xs) a in rw (n.0, any_behind test xs ys e n.1 b c) refl

-- what waited before the plug was taken, and isn't ended since, waits still
still_waits : (before : List Entry) (plug x : Plug) (w : Waits before plug) (v : Waits w.taken.earlier x) → list_any (ends_waiting x.address) w.taken.since ≡ false → Waits before x
still_waits before plug x w v n =
    record {
      taken = record {
        earlier = v.taken.earlier;
        maker = v.taken.maker;
        since = v.taken.since ++ w.taken.maker ∷ w.taken.since;
        split = w.taken.split ∙ ap (λ l. l ++ w.taken.maker ∷ w.taken.since) v.taken.split ∙ append_assoc v.taken.earlier (v.taken.maker ∷ v.taken.since) (w.taken.maker ∷ w.taken.since);
        makes = v.taken.makes;
        kept = any_behind (ends_waiting x.address) v.taken.since w.taken.since w.taken.maker v.taken.kept (plug_ends_none x.address plug w.taken.maker w.taken.makes) n;
      };
      served = v.served;
      full = v.full;
    }

shorter : (t xs ys : List Entry) (e : Entry) → t ≡ xs ++ e ∷ ys → length t ≤ length xs → ⊥
shorter t xs ys e s l = let same : length t ≡ length (xs ++ e ∷ ys) = ap length s in grind (arith, same, l, common_steps)

all_ended : (before : List Entry) (plug : Plug) (w : WaitsLongest before plug) (x : Plug) → In x (after w.waits.taken.earlier).waiting → list_any (ends_waiting x.address) w.waits.taken.since ≡ true
unfolding still_waits
all_ended before plug w x i = by_bool (list_any (ends_waiting x.address) w.waits.taken.since) refl
  where
    by_bool : (b : Bool) → list_any (ends_waiting x.address) w.waits.taken.since ≡ b → b ≡ true
    by_bool true e = refl
    by_bool false e =
        let v : Waits w.waits.taken.earlier x = waits_there w.waits.taken.earlier x i in
        absurd (shorter w.waits.taken.earlier v.taken.earlier v.taken.since v.taken.maker v.taken.split (w.longest x (still_waits before plug x w.waits v e)))

was_full : (before : List Entry) → ((h : ℕ) → IsDiskHandle h → ¬ IsUnbound before h) → least_unbound_in (after before).bound ≡ no_handle
was_full before f = by_least (least_unbound_in (after before).bound) refl
  where
    by_least : (o : Option ℕ) → least_unbound_in (after before).bound ≡ o → o ≡ no_handle
    by_least None e = refl
    by_least (Some k) e =
        let l : IsLeastFrom 0x0009 64 k (bound_after before) = least_from-Some 0x0009 64 k (bound_after before) (subst (λ b. least_unbound_in b ≡ Some k) (bound_there before) e) in
        absurd (f k (l.least, let m = l.most in omega arith) (is_unbound before k l.unbound))

put_last : (g : Serving) (plug : Plug) (e : Entry) → plug_of_entry e ≡ Some plug → g.dropping ≡ false → least_unbound_in g.bound ≡ no_handle → (served_next g e).waiting ≡ g.waiting ++ plug ∷ []
put_last g plug (entry.Take lane.Back (item.Back (back.Plugged address number expander phy))) m d l =
    let same : record { address = address; number = number } ≡ plug = cc in rw (d, l) (ap (λ p. g.waiting ++ p ∷ []) same)
put_last g plug _ m d l = absurd cc

longest_first : (before : List Entry) (plug : Plug) → WaitsLongest before plug → first_of (after before).waiting ≡ Some plug
longest_first before plug w =
    let l : Lasts (λ e. plug_of_entry e ≡ Some plug) (ends_waiting plug.address) before = w.waits.taken in
    let g : Serving = after l.earlier in
    let waiting : (served_next g l.maker).waiting ≡ g.waiting ++ plug ∷ [] = put_last g plug l.maker l.makes (not_dropping l.earlier w.waits.served) (was_full l.earlier w.waits.full) in
    let first : first_of (state_after served_next (served_next g l.maker) l.since).waiting ≡ Some plug = comes_first plug (served_next g l.maker) l.since g.waiting [] waiting l.kept (all_ended before plug w) in
    ap (λ x. first_of x.waiting) (ap after l.split ∙ after_split served_next nothing_bound l.earlier l.since l.maker) ∙ first

-- ---- all together

-- what passes the rule serves plugs
pub plugs_are_served : (t : List Entry) → ServesPlugs t → PlugsAreServed t
plugs_are_served t p = record {
  binds = λ before behind h a k split.
      let asks = bind_asked (after before) h a k (after before).due refl (asked_in served_next ServedAsks nothing_bound t before behind (entry.Bind h a k) p.passes split) in
      binds_least before h (record { address = a; number = k }) asks.0 asks.1;
  at_once = λ before behind e plug h split m undropped d u.
      let least = some_unbound before h d u in
      due_bound (served_next (after before) e) plug behind (due_at_once (after before) plug least.0 e m (not_dropping before undropped) least.1)
      (passes_from served_next ServedAsks nothing_bound t before behind e p.passes split) (ends_there t before behind e split p.ended);
  in_turn = λ before behind h plug split w.
      due_bound (served_next (after before) (entry.Unbind h)) plug behind (longest_first before plug w)
      (passes_from served_next ServedAsks nothing_bound t before behind (entry.Unbind h) p.passes split) (ends_there t before behind (entry.Unbind h) split p.ended);
}
