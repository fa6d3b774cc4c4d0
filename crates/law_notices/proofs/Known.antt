-- What the controller knows of an address, as a disk is bound, waits, goes, waits no more, or its handle is freed.
use Rattle.std.proofs.Common.{◌≡◌, ℕ, ◌-◌, ◌<◌, ◌==◌, not, Bool, true, false, cond, List, [], ◌∷◌, ◌++◌, length, set, Option, Some, None, refl, ap, ap₂, sym, ◌∙◌, subst, arith}
use Rattle.std.specs.List.{filter, find}
use Rattle.std.proofs.lemmas.Bool.{eqb-true}
use Rattle.std.proofs.lemmas.List.Folds.{find_past}
use Rattle.removal.specs.Handles.{IsHandle}
use Rattle.mpt_rules.specs.declared.binding.Binding.{Binding}
use Rattle.mpt_rules.specs.declared.binding.Binding.TheVariants as binding
use Rattle.mpt_rules.specs.declared.binding.Waiting.{Waiting}
use Rattle.mpt_rules.specs.World.Counts.{how_many, one_if}
use Rattle.mpt_rules.specs.Ioc.Bindings.{is_known, waits_at}
use Rattle.mpt_rules.specs.Ioc.Parts.{Ioc}
use Rattle.mpt_rules.specs.Ioc.Tables.{first_handle, is_present_at}
use Rattle.law_facts.specs.Notices.{by_binding, known}
use Rattle.law_flights.proofs.KnownOnce as once
use Rattle.law_flights.proofs.KnownOnce.{Once}
use Rattle.law_handles.proofs.Tables.{at}
use Rattle.law_handles.proofs.TablesSame.{Same}
use Rattle.law_notices.proofs.Found.{found_last, found_left, found_over, found_set, no_place, none_found, none_left, not_any, passed_last}

-- over the controller's two tables
abbrev pub knows : List Binding → List Waiting → ℕ → Option Waiting
knows bindings waiting a = by_binding (find (is_present_at a) bindings) (find (waits_at a) waiting)

pub same_known : (x y : Ioc) (a : ℕ) → Same x y → known x a ≡ known y a
same_known x y a s = ap₂ (λ b v. knows b v a) s.bindings s.waiting

abbrev pub present : Waiting → Binding
present disk = binding.Present disk.address disk.plug disk.expander disk.phy

-- of an address that isn't known
pub not_known : (ioc : Ioc) (a : ℕ) → once.known a ioc.bindings ioc.waiting ≡ 0 → is_known ioc a ≡ false
not_known ioc a z = let p = no_place (is_present_at a) ioc.bindings (omega (arith, z)) in let q = not_any (waits_at a) ioc.waiting (omega (arith, z)) in rw (p, q) refl

pub unknown_is : (bindings : List Binding) (waiting : List Waiting) (a : ℕ) → once.known a bindings waiting ≡ 0 → knows bindings waiting a ≡ None
unknown_is bindings waiting a z = ap₂ by_binding (none_found (is_present_at a) bindings (omega (arith, z))) (none_found (waits_at a) waiting (omega (arith, z)))

place_of : (h0 : ℕ) (bindings : List Binding) → IsHandle h0 → length bindings ≡ 64 → h0 - first_handle < length bindings
place_of h0 bindings i n = let a = i.0 in let b = i.1 in omega (arith, a, b, n)

-- a disk gets a handle
pub disk_bound : (bindings : List Binding) (waiting : List Waiting) (h0 : ℕ) (disk : Waiting) → IsHandle h0 → length bindings ≡ 64 → at bindings h0 ≡ binding.Unbound → how_many (is_present_at disk.address) bindings ≡ 0 → (a : ℕ)
    → knows (set bindings (h0 - first_handle) (present disk)) waiting a ≡ cond (disk.address == a) (Some disk) (knows bindings waiting a)
disk_bound bindings waiting h0 disk i n u z a = by_key (disk.address == a) refl
  where
    by_key : (b : Bool) → (disk.address == a) ≡ b → knows (set bindings (h0 - first_handle) (present disk)) waiting a ≡ cond b (Some disk) (knows bindings waiting a)
    by_key true t =
        let same : disk.address ≡ a = eqb-true disk.address a t in
        let y : how_many (is_present_at a) bindings ≡ 0 = subst (λ k. how_many (is_present_at k) bindings ≡ 0) same z in
        ap (λ o. by_binding o (find (waits_at a) waiting)) (found_set (is_present_at a) bindings (h0 - first_handle) (present disk) y (place_of h0 bindings i n) t)
    by_key false t = ap (λ o. by_binding o (find (waits_at a) waiting)) (find_past (is_present_at a) bindings (h0 - first_handle) (present disk) binding.Unbound (ap (is_present_at a) u) t)

-- a disk waits for one
pub disk_waits : (bindings : List Binding) (waiting : List Waiting) (disk : Waiting) → once.known disk.address bindings waiting ≡ 0 → (a : ℕ) → knows bindings (waiting ++ disk ∷ []) a ≡ cond (disk.address == a) (Some disk) (knows bindings waiting a)
disk_waits bindings waiting disk z a = by_key (disk.address == a) refl
  where
    by_key : (b : Bool) → (disk.address == a) ≡ b → knows bindings (waiting ++ disk ∷ []) a ≡ cond b (Some disk) (knows bindings waiting a)
    by_key true t =
        let same : disk.address ≡ a = eqb-true disk.address a t in
        let y : once.known a bindings waiting ≡ 0 = subst (λ k. once.known k bindings waiting ≡ 0) same z in
        ap₂ by_binding (none_found (is_present_at a) bindings (omega (arith, y))) (found_last (waits_at a) waiting disk (omega (arith, y)) t)
    by_key false t = ap (by_binding (find (is_present_at a) bindings)) (passed_last (waits_at a) waiting disk t)

-- a disk with a handle goes
pub disk_lost : (bindings : List Binding) (waiting : List Waiting) (h0 address plug expander phy : ℕ) → IsHandle h0 → Once bindings waiting → at bindings h0 ≡ binding.Present address plug expander phy → (a : ℕ)
    → knows (set bindings (h0 - first_handle) (binding.Gone address)) waiting a ≡ cond (address == a) None (knows bindings waiting a)
disk_lost bindings waiting h0 address plug expander phy i o e a = by_key (address == a) refl
  where
    by_key : (b : Bool) → (address == a) ≡ b → knows (set bindings (h0 - first_handle) (binding.Gone address)) waiting a ≡ cond b None (knows bindings waiting a)
    by_key true t =
        let p : is_present_at a (at bindings h0) ≡ true = ap (is_present_at a) e ∙ t in
        let l = place_of h0 bindings i o.table in
        let c = once.count_set (is_present_at a) bindings (h0 - first_handle) (binding.Gone address) binding.Unbound l in
        let k = o.once a in
        let u = ap one_if p in
        ap₂ by_binding (found_over (is_present_at a) bindings (h0 - first_handle) (binding.Gone address) binding.Unbound (omega (arith, k)) l p refl) (none_found (waits_at a) waiting (omega (arith, c, k, u)))
    by_key false t = ap (λ o. by_binding o (find (waits_at a) waiting)) (find_past (is_present_at a) bindings (h0 - first_handle) (binding.Gone address) binding.Unbound (ap (is_present_at a) e ∙ t) refl)

-- one without a handle waits no more
pub disk_unawaited : (bindings : List Binding) (waiting : List Waiting) (address : ℕ) → how_many (is_present_at address) bindings ≡ 0 → (a : ℕ)
    → knows bindings (filter (λ disk. not (waits_at address disk)) waiting) a ≡ cond (address == a) None (knows bindings waiting a)
disk_unawaited bindings waiting address z a = by_key (address == a) refl
  where
    apart : (address == a) ≡ false → (disk : Waiting) → (disk.address == a) ≡ true → (disk.address == address) ≡ false
    apart t disk u = grind (arith, t, u)

    by_key : (b : Bool) → (address == a) ≡ b → knows bindings (filter (λ disk. not (waits_at address disk)) waiting) a ≡ cond b None (knows bindings waiting a)
    by_key true t =
        let same : address ≡ a = eqb-true address a t in
        let y : how_many (is_present_at a) bindings ≡ 0 = subst (λ k. how_many (is_present_at k) bindings ≡ 0) same z in
        ap₂ by_binding (none_found (is_present_at a) bindings y) (subst (λ k. find (waits_at a) (filter (λ disk. not (waits_at k disk)) waiting) ≡ None) (sym same) (none_left (waits_at a) waiting))
    by_key false t = ap (by_binding (find (is_present_at a) bindings)) (found_left (waits_at a) (waits_at address) waiting (apart t))

-- a gone handle is freed
pub disk_forgotten : (bindings : List Binding) (waiting : List Waiting) (h0 address : ℕ) → at bindings h0 ≡ binding.Gone address → (a : ℕ) → knows (set bindings (h0 - first_handle) binding.Unbound) waiting a ≡ knows bindings waiting a
disk_forgotten bindings waiting h0 address e a = ap (λ o. by_binding o (find (waits_at a) waiting)) (find_past (is_present_at a) bindings (h0 - first_handle) binding.Unbound binding.Unbound (ap (is_present_at a) e) refl)

-- the first that waits isn't present
pub disk_first : (bindings : List Binding) (disk : Waiting) (rest : List Waiting) → how_many (is_present_at disk.address) bindings ≡ 0 → (a : ℕ) → knows bindings (disk ∷ rest) a ≡ cond (disk.address == a) (Some disk) (knows bindings rest a)
disk_first bindings disk rest z a = by_key (disk.address == a) refl
  where
    by_key : (b : Bool) → (disk.address == a) ≡ b → by_binding (find (is_present_at a) bindings) (cond (disk.address == a) (Some disk) (find (waits_at a) rest)) ≡ cond b (Some disk) (knows bindings rest a)
    by_key true t =
        let same : disk.address ≡ a = eqb-true disk.address a t in
        let y : how_many (is_present_at a) bindings ≡ 0 = subst (λ k. how_many (is_present_at k) bindings ≡ 0) same z in
        ap₂ by_binding (none_found (is_present_at a) bindings y) (ap (λ b. cond b (Some disk) (find (waits_at a) rest)) t)
    by_key false t = ap (λ b. by_binding (find (is_present_at a) bindings) (cond b (Some disk) (find (waits_at a) rest))) t
