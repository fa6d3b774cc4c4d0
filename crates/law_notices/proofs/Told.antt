-- How the notices of a disk lead from what the controller knows of it to how it stands, and how each of them comes and is taken.
use Rattle.std.proofs.Common.{◌≡◌, ℕ, ◌+◌, ◌-◌, ◌<◌, ◌≤◌, ◌⊎◌, inl, inr, Bool, true, false, if◌then◌else◌, List, [], ◌∷◌, ◌++◌, Option, Some, None, is_none, is_some, refl, ap, sym, ◌∙◌, subst, arith}
use Rattle.mpt_wire.specs.Machine.State.{Place}
use Rattle.mpt_trace.specs.declared.item.Back.{Back}
use Rattle.mpt_trace.specs.declared.item.Back.TheVariants as back
use Rattle.mpt_rules.specs.declared.binding.Waiting.{Waiting}
use Rattle.mpt_rules.specs.Fabric.Parts.{FabricDisk}
use Rattle.mpt_rules.specs.World.Counts.{how_many}
use Rattle.mpt_rules.proofs.Counts.{how_many-append}
use Rattle.law_facts.specs.Notices.{Standing, is_last, is_next, is_plug, place_known, standing_after, told}
use Rattle.law_moves.proofs.Counted.{how_many-cons, how_many-nil}

-- how a disk of the fabric stands
abbrev pub stands : FabricDisk → Standing
stands d = record { plugs = d.plugs; at = d.at }

abbrev pub standing_of : Option FabricDisk → Option Standing
standing_of None = None
standing_of (Some d) = Some (stands d)

-- with these notices on their way
abbrev pub told_so_far : ℕ → List Back → ℕ
told_so_far plugs ns = plugs - how_many is_plug ns

-- what is known, by the notices, leads to how the disk stands; of what is no disk nothing is known
abbrev pub Leads : Option Waiting → List Back → Option Standing → Type 0
Leads k ns None = (k ≡ None) × (ns ≡ [])
Leads k ns (Some d) =
    (told (Some (record { plugs = told_so_far d.plugs ns; at = place_known k })) ns ≡ Some (record { plugs = d.plugs; at = d.at }))
    × ((x : Waiting) → k ≡ Some x → x.plug ≡ told_so_far d.plugs ns)

-- ---- what was told

pub told-append : (o : Option Standing) (xs ys : List Back) → told o (xs ++ ys) ≡ told (told o xs) ys
told-append None xs ys = refl
told-append (Some d) [] ys = refl
told-append (Some d) (x ∷ xs) ys = told-append (standing_after d x) xs ys

-- a notice that doesn't fit leads to nothing
none_told : (b : Bool) (s e : Standing) (ns : List Back) → told (if b then Some s else None) ns ≡ Some e → (b ≡ true) × (told (Some s) ns ≡ Some e)
none_told true s e ns f = (refl, f)
none_told false s e ns f = absurd (cc)

-- a disk was plugged since, or it went at most
abbrev pub IsLater : Standing → Standing → Type 0
IsLater s e = (s.plugs < e.plugs) ⊎ ((s.plugs ≡ e.plugs) × (s.at ≡ None → e.at ≡ None))

pub later : (s e : Standing) (ns : List Back) → told (Some s) ns ≡ Some e → (IsLater s e) × (e.plugs ≡ s.plugs + how_many is_plug ns)
later s e [] t = (inr (ap (λ (o : Option Standing). plugs_in o) t, λ z. sym (ap at_in t) ∙ z), (let n = how_many-nil is_plug in let p = ap (λ (o : Option Standing). plugs_in o) t in omega (arith, n, p)))
  where
    plugs_in : Option Standing → ℕ
    plugs_in None = 0
    plugs_in (Some x) = x.plugs

    at_in : Option Standing → Option Place
    at_in None = None
    at_in (Some x) = x.at
later s e (x ∷ ns) t = by_item x (λ m. later m e ns) t
  where
    by_item : (x : Back) → ((m : Standing) → told (Some m) ns ≡ Some e → (IsLater m e) × (e.plugs ≡ m.plugs + how_many is_plug ns)) → told (standing_after s x) ns ≡ Some e → (IsLater s e) × (e.plugs ≡ s.plugs + how_many is_plug (x ∷ ns))
    by_item (back.Plugged address plug expander phy) h t =
        let m : Standing = record { plugs = plug; at = Some (record { expander = expander; phy = phy }) } in
        let n = none_told (is_next s plug) m e ns t in
        let r = h m n.1 in
        let c = how_many-cons is_plug (back.Plugged address plug expander phy) ns in
        let p : plug ≡ s.plugs + 1 = grind (arith, n) in
        let q = r.1 in
        (inl (omega (arith, p, q)), omega (arith, p, q, c))
    by_item (back.Unplugged address plug expander phy) h t =
        let m : Standing = record s { at = None } in
        let n = none_told (is_last s plug) m e ns t in
        let r = h m n.1 in
        let c = how_many-cons is_plug (back.Unplugged address plug expander phy) ns in
        let q = r.1 in
        (by_later r.0, omega (arith, q, c))
      where
        by_later : IsLater (record s { at = None }) e → IsLater s e
        by_later (inl l) = inl l
        by_later (inr l) = inr (l.0, λ z. l.1 refl)
    by_item (back.Result tag r) h t = let c = how_many-cons is_plug (back.Result tag r) ns in let k = h s t in let q = k.1 in (k.0, omega (arith, q, c))
    by_item (back.Gone tag) h t = let c = how_many-cons is_plug (back.Gone tag) ns in let k = h s t in let q = k.1 in (k.0, omega (arith, q, c))
    by_item (back.Terminated tag) h t = let c = how_many-cons is_plug (back.Terminated tag) ns in let k = h s t in let q = k.1 in (k.0, omega (arith, q, c))
    by_item (back.Aborted smid seen) h t = let c = how_many-cons is_plug (back.Aborted smid seen) ns in let k = h s t in let q = k.1 in (k.0, omega (arith, q, c))
    by_item (back.Cleared smid count) h t = let c = how_many-cons is_plug (back.Cleared smid count) ns in let k = h s t in let q = k.1 in (k.0, omega (arith, q, c))
    by_item back.Discovered h t = let c = how_many-cons is_plug back.Discovered ns in let k = h s t in let q = k.1 in (k.0, omega (arith, q, c))
    by_item (back.Linked generation) h t = let c = how_many-cons is_plug (back.Linked generation) ns in let k = h s t in let q = k.1 in (k.0, omega (arith, q, c))
    by_item back.Calm h t = let c = how_many-cons is_plug back.Calm ns in let k = h s t in let q = k.1 in (k.0, omega (arith, q, c))

-- ---- a notice is taken

-- a plug: nothing was known, and it is the next one
pub record Comes (k : Option Waiting) (plugs plug : ℕ) (ns : List Back) : Type 0 where
  pub nowhere : place_known k ≡ None
  pub next : plug ≡ told_so_far plugs ns
  pub since : 1 ≤ plug

pub comes : (k : Option Waiting) (d : Standing) (address plug expander phy : ℕ) (ns : List Back) → Leads k (back.Plugged address plug expander phy ∷ ns) (Some d) → Comes k d.plugs plug ns × Leads (Some (record { address = address; plug = plug; expander = expander; phy = phy })) ns (Some d)
comes k d address plug expander phy ns l =
    let s : Standing = record { plugs = told_so_far d.plugs (back.Plugged address plug expander phy ∷ ns); at = place_known k } in
    let m : Standing = record { plugs = plug; at = Some (record { expander = expander; phy = phy }) } in
    let n = none_told (is_next s plug) m (record { plugs = d.plugs; at = d.at }) ns l.0 in
    let r = (later m (record { plugs = d.plugs; at = d.at }) ns n.1).1 in
    let same : plug ≡ told_so_far d.plugs ns = omega (arith, r) in
    let free : is_none (place_known k) ≡ true = grind (arith, n) in
    let more : plug ≡ told_so_far d.plugs (back.Plugged address plug expander phy ∷ ns) + 1 = grind (arith, n) in (
      record { nowhere = none_is (place_known k) free; next = same; since = omega (arith, more) },
      (subst (λ p. told (Some (record { plugs = p; at = Some (record { expander = expander; phy = phy }) })) ns ≡ Some (record { plugs = d.plugs; at = d.at })) same n.1, λ x e. sym (ap plug_in e) ∙ same),
    )
  where
    none_is : {X : Type 0} (o : Option X) → is_none o ≡ true → o ≡ None
    none_is None e = refl
    none_is (Some x) e = absurd (cc)

    plug_in : Option Waiting → ℕ
    plug_in None = 0
    plug_in (Some x) = x.plug

-- an unplug: a place was known, of the last plug that was told, which has ended
pub record Goes (k : Option Waiting) (d : Standing) (plug : ℕ) (ns : List Back) : Type 0 where
  pub there : is_some (place_known k) ≡ true
  pub last : plug ≡ told_so_far d.plugs ns
  pub over : (plug < d.plugs) ⊎ ((plug ≡ d.plugs) × (d.at ≡ None))

pub goes : (k : Option Waiting) (d : Standing) (address plug expander phy : ℕ) (ns : List Back) → Leads k (back.Unplugged address plug expander phy ∷ ns) (Some d) → Goes k d plug ns × Leads None ns (Some d)
goes k d address plug expander phy ns l =
    let s : Standing = record { plugs = told_so_far d.plugs (back.Unplugged address plug expander phy ∷ ns); at = place_known k } in
    let m : Standing = record { plugs = told_so_far d.plugs (back.Unplugged address plug expander phy ∷ ns); at = None } in
    let n = none_told (is_last s plug) m (record { plugs = d.plugs; at = d.at }) ns l.0 in
    let r = later m (record { plugs = d.plugs; at = d.at }) ns n.1 in
    let c = how_many-cons is_plug (back.Unplugged address plug expander phy) ns in
    let same : told_so_far d.plugs (back.Unplugged address plug expander phy ∷ ns) ≡ told_so_far d.plugs ns = omega (arith, c) in
    let there : is_some (place_known k) ≡ true = grind (arith, n) in
    let last : plug ≡ told_so_far d.plugs (back.Unplugged address plug expander phy ∷ ns) = grind (arith, n) in (
      record { there = there; last = last ∙ same; over = by_later last r.0 },
      (subst (λ p. told (Some (record { plugs = p; at = None })) ns ≡ Some (record { plugs = d.plugs; at = d.at })) same n.1, λ x e. absurd (cc)),
    )
  where
    by_later : plug ≡ told_so_far d.plugs (back.Unplugged address plug expander phy ∷ ns) → IsLater (record { plugs = told_so_far d.plugs (back.Unplugged address plug expander phy ∷ ns); at = None }) (record { plugs = d.plugs; at = d.at }) → (plug < d.plugs) ⊎ ((plug ≡ d.plugs) × (d.at ≡ None))
    by_later e (inl x) = inl (omega (arith, e, x))
    by_later e (inr x) = inr (e ∙ x.0, x.1 refl)

-- ---- a notice comes

pub plugged : (k : Option Waiting) (d : Standing) (address expander phy : ℕ) (ns : List Back) → d.at ≡ None → Leads k ns (Some d)
    → Leads k (ns ++ back.Plugged address (d.plugs + 1) expander phy ∷ []) (Some (record { plugs = d.plugs + 1; at = Some (record { expander = expander; phy = phy }) }))
plugged k d address expander phy ns f l =
    let y = back.Plugged address (d.plugs + 1) expander phy in
    let c = how_many-append is_plug ns (y ∷ []) in
    let a = how_many-cons is_plug y [] in
    let z = how_many-nil is_plug in
    let same : told_so_far d.plugs ns ≡ told_so_far (d.plugs + 1) (ns ++ y ∷ []) = omega (arith, c, a, z) in
    let s : Standing = record { plugs = told_so_far d.plugs ns; at = place_known k } in
    let e : told (Some s) (ns ++ y ∷ []) ≡ told (Some (record { plugs = d.plugs; at = d.at })) (y ∷ []) = told-append (Some s) ns (y ∷ []) ∙ ap (λ o. told o (y ∷ [])) l.0 in
    let t : is_next (record { plugs = d.plugs; at = d.at }) (d.plugs + 1) ≡ true = (let u = ap is_none f in grind (arith, u)) in
    let last : told (Some (record { plugs = d.plugs; at = d.at })) (y ∷ []) ≡ Some (record { plugs = d.plugs + 1; at = Some (record { expander = expander; phy = phy }) }) =
    ap (λ b. told (if b then Some (record { plugs = d.plugs + 1; at = Some (record { expander = expander; phy = phy }) }) else None) []) t in
    (subst (λ p. told (Some (record { plugs = p; at = place_known k })) (ns ++ y ∷ []) ≡ Some (record { plugs = d.plugs + 1; at = Some (record { expander = expander; phy = phy }) })) same (e ∙ last), λ x g. l.1 x g ∙ same)

pub unplugged : (k : Option Waiting) (d : Standing) (address expander phy : ℕ) (ns : List Back) → is_some d.at ≡ true → Leads k ns (Some d)
    → Leads k (ns ++ back.Unplugged address d.plugs expander phy ∷ []) (Some (record { plugs = d.plugs; at = None }))
unplugged k d address expander phy ns f l =
    let y = back.Unplugged address d.plugs expander phy in
    let c = how_many-append is_plug ns (y ∷ []) in
    let a = how_many-cons is_plug y [] in
    let z = how_many-nil is_plug in
    let same : told_so_far d.plugs ns ≡ told_so_far d.plugs (ns ++ y ∷ []) = omega (arith, c, a, z) in
    let s : Standing = record { plugs = told_so_far d.plugs ns; at = place_known k } in
    let e : told (Some s) (ns ++ y ∷ []) ≡ told (Some (record { plugs = d.plugs; at = d.at })) (y ∷ []) = told-append (Some s) ns (y ∷ []) ∙ ap (λ o. told o (y ∷ [])) l.0 in
    let t : is_last (record { plugs = d.plugs; at = d.at }) d.plugs ≡ true = grind (arith, f) in
    let last : told (Some (record { plugs = d.plugs; at = d.at })) (y ∷ []) ≡ Some (record { plugs = d.plugs; at = None }) =
    ap (λ b. told (if b then Some (record { plugs = d.plugs; at = None }) else None) []) t in
    (subst (λ p. told (Some (record { plugs = p; at = place_known k })) (ns ++ y ∷ []) ≡ Some (record { plugs = d.plugs; at = None })) same (e ∙ last), λ x g. l.1 x g ∙ same)

-- ---- the discovery

-- a disk that is nowhere isn't named
pub unnamed : (plugs : ℕ) → Leads None [] (Some (record { plugs = plugs; at = None }))
unnamed plugs = let z = how_many-nil is_plug in let same : plugs ≡ told_so_far plugs [] = omega (arith, z) in (ap (λ p. Some (record { plugs = p; at = None })) (sym same), λ x e. absurd (cc))

-- one that is plugged is named by its last plug
pub named : (plugs address : ℕ) (p : Place) → 1 ≤ plugs → Leads None (back.Plugged address plugs p.expander p.phy ∷ []) (Some (record { plugs = plugs; at = Some p }))
named plugs address p l =
    let y = back.Plugged address plugs p.expander p.phy in
    let c = how_many-cons is_plug y [] in
    let z = how_many-nil is_plug in
    let same : plugs ≡ told_so_far plugs (y ∷ []) + 1 = omega (arith, c, z, l) in
    let t : is_next (record { plugs = told_so_far plugs (y ∷ []); at = None }) plugs ≡ true = grind (arith, same) in
    (ap (λ b. told (if b then Some (record { plugs = plugs; at = Some (record { expander = p.expander; phy = p.phy }) }) else None) []) t, λ x e. absurd (cc))
