-- Which disk stands at each phy.
use Rattle.std.proofs.Common.{◌≡◌, ◌≢◌, ◌⊎◌, ℕ, zero, suc, ◌+◌, ◌*◌, ◌<◌, ◌≤◌, ◌&&◌, eqb, nat_lt, Bool, true, false, if◌then◌else◌, List, [], ◌∷◌, length, set, map, replicate, Option, Some, None, refl, sym, ap, ◌∙◌, subst, inl, inr, arith}
use Rattle.std.specs.Prelude.{All, IfSome, IsSome, is_some, slice_index}
use Rattle.std.specs.List.{find, slice_get}
use Rattle.std.proofs.lemmas.Bool.{and_parts, cases_eq, cases_lt, eq-eqb, eqb-true, lt-ltb}
use Rattle.std.proofs.lemmas.List.{get_or-replicate, get_or-set_other, get_or-set_same, get_or_past}
use Rattle.std.proofs.lemmas.Grind.{common_steps}
use Rattle.std.proofs.lemmas.Option.{none-some, same_Some, slice_get_within}
use Rattle.scsi_disk.specs.Disk.{Disk}
use Rattle.mpt_rules.specs.Fabric.Disks.{is_at, stands_at}
use Rattle.mpt_rules.specs.Fabric.Parts.{FabricDisk, Place}
use Rattle.sas_fabric.specs.Disks.{IsPhyIndex, slot_of, stands_in}
use Rattle.sas_fabric.specs.Making.{as_added}
use Rattle.sas_fabric.proofs.Lists.{find_none, find_only}

-- ---- phys

same_place : (p q : Place) → p.expander ≡ q.expander → p.phy ≡ q.phy → p ≡ q
same_place p q expander phy =
    ap (λ e. let x : Place = record { expander = e; phy = p.phy } in x) expander ∙ ap (λ f. let x : Place = record { expander = q.expander; phy = f } in x) phy

differs : (p q : Place) → (p ≡ q) ⊎ (p ≢ q)
differs p q =
    elim (cases_eq p.expander q.expander) [
      | inl expander ↦
          elim (cases_eq p.phy q.phy) [
            | inl phy ↦ inl (same_place p q expander phy)
            | inr other ↦ inr (λ same. other (ap (λ (x : Place). x.phy) same))
          ]
      | inr other ↦ inr (λ same. other (ap (λ (x : Place). x.expander) same))
    ]

stands_is : (disk : FabricDisk) (place : Place) → disk.at ≡ Some place → stands_at place.expander place.phy disk ≡ true
stands_is disk place at = rw (at, eq-eqb place.expander place.expander refl, eq-eqb place.phy place.phy refl) refl

is_place : (disk : FabricDisk) (place : Place) → stands_at place.expander place.phy disk ≡ true → disk.at ≡ Some place
is_place disk place stands = of disk.at stands
  where
    of : (o : Option Place) → is_at place.expander place.phy o ≡ true → o ≡ Some place
    of None h = absurd (cc)
    of (Some p) h =
        let both = and_parts (eqb p.expander place.expander) (eqb p.phy place.phy) h in
        ap Some (same_place p place (eqb-true p.expander place.expander both.0) (eqb-true p.phy place.phy both.1))

-- ---- what the index finds

module _ (stands : Place → Option ℕ) (disks : List FabricDisk) (index : IsPhyIndex stands disks) where
  pub phy_found : (i : ℕ) (disk : FabricDisk) (place : Place) → stands place ≡ Some i → slice_get disks i ≡ Some disk → find (stands_at place.expander place.phy) disks ≡ Some disk
  phy_found i disk place found is =
      let there = index.only i place found in
      let same : there.0 ≡ disk = same_Some there.0 disk (sym there.1 ∙ is) in
      let at : disk.at ≡ Some place = ap (λ (d : FabricDisk). d.at) (sym same) ∙ there.2 in
      find_only (stands_at place.expander place.phy) disks i disk is (stands_is disk place at)
      (λ j other here passes. same_Some j i (sym (index.holds j other place here (is_place other place passes)) ∙ found))

  pub phy_none : (place : Place) → stands place ≡ None → find (stands_at place.expander place.phy) disks ≡ None
  phy_none place none =
      find_none (stands_at place.expander place.phy) disks (λ j other here passes. none-some j (sym none ∙ index.holds j other place here (is_place other place passes)))

  -- and no disk stands where none is found
  pub phy_free : (place : Place) → find (stands_at place.expander place.phy) disks ≡ None → stands place ≡ None
  phy_free place none = of (stands place) refl
    where
      of : (o : Option ℕ) → stands place ≡ o → o ≡ None
      of None is = refl
      of (Some i) is = let there = index.only i place is in absurd (none-some there.0 (sym none ∙ phy_found i there.0 place is there.1))

  -- what is found is one of the list
  pub phy_within : (i : ℕ) (place : Place) → stands place ≡ Some i → i < length disks
  phy_within i place found = let there = index.only i place found in slice_get_within disks i there.0 there.1

-- ---- what a write leaves

got_same : (disks : List FabricDisk) (i : ℕ) (new disk : FabricDisk) → slice_get disks i ≡ Some disk → slice_get (set disks i new) i ≡ Some new
got_same [] i new disk is = absurd (cc)
got_same (d ∷ disks) zero new disk is = refl
got_same (d ∷ disks) (suc i) new disk is = got_same disks i new disk is

got_other : (disks : List FabricDisk) (i j : ℕ) (new : FabricDisk) → j ≢ i → slice_get (set disks i new) j ≡ slice_get disks j
got_other [] i j new apart = refl
got_other (d ∷ disks) zero zero new apart = absurd (apart refl)
got_other (d ∷ disks) zero (suc j) new apart = refl
got_other (d ∷ disks) (suc i) zero new apart = refl
got_other (d ∷ disks) (suc i) (suc j) new apart = got_other disks i j new (λ same. apart (ap suc same))

module _ (stands now : Place → Option ℕ) (disks : List FabricDisk) (index : IsPhyIndex stands disks) (i : ℕ) (disk new : FabricDisk) (is : slice_get disks i ≡ Some disk) where
  at_new : (other : FabricDisk) → slice_get (set disks i new) i ≡ Some other → new ≡ other
  at_new other there = same_Some new other (sym (got_same disks i new disk is) ∙ there)

  -- a disk comes to a phy where none stands
  pub phy_plugged : (place : Place) → disk.at ≡ None → new.at ≡ Some place → stands place ≡ None → now place ≡ Some i → ((other : Place) → other ≢ place → now other ≡ stands other)
      → IsPhyIndex now (set disks i new)
  phy_plugged place out at free here others = record { holds = holds; only = only }
    where
      holds : (j : ℕ) (other : FabricDisk) (p : Place) → slice_get (set disks i new) j ≡ Some other → other.at ≡ Some p → now p ≡ Some j
      holds j other p there stood =
          elim (cases_eq j i) [
            | inl same ↦
                let first : new ≡ other = at_new other (subst (λ k. slice_get (set disks i new) k ≡ Some other) same there) in
                let phy : place ≡ p = same_Some place p (sym at ∙ (ap (λ (d : FabricDisk). d.at) first ∙ stood)) in
                ap now (sym phy) ∙ (here ∙ ap Some (sym same))
            | inr apart ↦
                let old : stands p ≡ Some j = index.holds j other p (sym (got_other disks i j new apart) ∙ there) stood in
                elim (differs p place) [
                  | inl phy ↦ absurd (none-some j (sym free ∙ (ap stands (sym phy) ∙ old)))
                  | inr elsewhere ↦ others p elsewhere ∙ old
                ]
          ]

      only : (j : ℕ) (p : Place) → now p ≡ Some j → (other : FabricDisk) × (slice_get (set disks i new) j ≡ Some other) × (other.at ≡ Some p)
      only j p found =
          elim (differs p place) [
            | inl phy ↦
                let same : i ≡ j = same_Some i j (sym here ∙ (ap now (sym phy) ∙ found)) in
                (new, subst (λ k. slice_get (set disks i new) k ≡ Some new) same (got_same disks i new disk is), at ∙ ap Some (sym phy))
            | inr elsewhere ↦
                let old = index.only j p (sym (others p elsewhere) ∙ found) in
                let apart : j ≢ i =
                λ same. none-some p (sym out ∙ (ap (λ (d : FabricDisk). d.at) (same_Some disk old.0 (sym is ∙ (ap (slice_get disks) (sym same) ∙ old.1))) ∙ old.2)) in
                (old.0, got_other disks i j new apart ∙ old.1, old.2)
          ]

  -- a disk goes from its phy
  phy_unplugged : (place : Place) → disk.at ≡ Some place → new.at ≡ None → now place ≡ None → ((other : Place) → other ≢ place → now other ≡ stands other)
      → IsPhyIndex now (set disks i new)
  phy_unplugged place at out here others = record { holds = holds; only = only }
    where
      was : stands place ≡ Some i
      was = index.holds i disk place is at

      holds : (j : ℕ) (other : FabricDisk) (p : Place) → slice_get (set disks i new) j ≡ Some other → other.at ≡ Some p → now p ≡ Some j
      holds j other p there stood =
          elim (cases_eq j i) [
            | inl same ↦
                let first : new ≡ other = at_new other (subst (λ k. slice_get (set disks i new) k ≡ Some other) same there) in
                absurd (none-some p (sym out ∙ (ap (λ (d : FabricDisk). d.at) first ∙ stood)))
            | inr apart ↦
                let old : stands p ≡ Some j = index.holds j other p (sym (got_other disks i j new apart) ∙ there) stood in
                elim (differs p place) [
                  | inl phy ↦ absurd (apart (same_Some j i (sym old ∙ (ap stands phy ∙ was))))
                  | inr elsewhere ↦ others p elsewhere ∙ old
                ]
          ]

      only : (j : ℕ) (p : Place) → now p ≡ Some j → (other : FabricDisk) × (slice_get (set disks i new) j ≡ Some other) × (other.at ≡ Some p)
      only j p found =
          elim (differs p place) [
            | inl phy ↦ absurd (none-some j (sym here ∙ (ap now (sym phy) ∙ found)))
            | inr elsewhere ↦
                let old = index.only j p (sym (others p elsewhere) ∙ found) in
                let apart : j ≢ i =
                λ same. elsewhere (same_Some p place (sym old.2 ∙ (ap (λ (d : FabricDisk). d.at) (same_Some old.0 disk (sym old.1 ∙ (ap (slice_get disks) same ∙ is))) ∙ at))) in
                (old.0, got_other disks i j new apart ∙ old.1, old.2)
          ]

-- a disk changes, and stands where it stood
pub phy_same : (stands : Place → Option ℕ) (disks : List FabricDisk) → IsPhyIndex stands disks → (i : ℕ) (disk new : FabricDisk) → slice_get disks i ≡ Some disk → new.at ≡ disk.at
    → IsPhyIndex stands (set disks i new)
phy_same stands disks index i disk new is at = record { holds = holds; only = only }
  where
    holds : (j : ℕ) (other : FabricDisk) (p : Place) → slice_get (set disks i new) j ≡ Some other → other.at ≡ Some p → stands p ≡ Some j
    holds j other p there stood =
        elim (cases_eq j i) [
          | inl same ↦
              let first : new ≡ other = same_Some new other (sym (got_same disks i new disk is) ∙ subst (λ k. slice_get (set disks i new) k ≡ Some other) same there) in
              index.holds j disk p (subst (λ k. slice_get disks k ≡ Some disk) (sym same) is) (sym at ∙ (ap (λ (d : FabricDisk). d.at) first ∙ stood))
          | inr apart ↦ index.holds j other p (sym (got_other disks i j new apart) ∙ there) stood
        ]

    only : (j : ℕ) (p : Place) → stands p ≡ Some j → (other : FabricDisk) × (slice_get (set disks i new) j ≡ Some other) × (other.at ≡ Some p)
    only j p found =
        let old = index.only j p found in
        elim (cases_eq j i) [
          | inl same ↦
              let here : old.0 ≡ disk = same_Some old.0 disk (sym old.1 ∙ (ap (slice_get disks) same ∙ is)) in
              (new, subst (λ k. slice_get (set disks i new) k ≡ Some new) (sym same) (got_same disks i new disk is), at ∙ (ap (λ (d : FabricDisk). d.at) (sym here) ∙ old.2))
          | inr apart ↦ (old.0, got_other disks i j new apart ∙ old.1, old.2)
        ]

-- a disk goes from its phy, if it stands at one
pub phy_left : (stands now : Place → Option ℕ) (disks : List FabricDisk) → IsPhyIndex stands disks → (i : ℕ) (disk new : FabricDisk) → slice_get disks i ≡ Some disk → new.at ≡ None
    → IfSome disk.at (λ place. now place ≡ None) → ((other : Place) → disk.at ≢ Some other → now other ≡ stands other) → IsPhyIndex now (set disks i new)
phy_left stands now disks index i disk new is out = of disk.at refl
  where
    of : (o : Option Place) → disk.at ≡ o → IfSome o (λ place. now place ≡ None) → ((other : Place) → o ≢ Some other → now other ≡ stands other) → IsPhyIndex now (set disks i new)
    of None at here others =
        let kept = phy_same stands disks index i disk new is (out ∙ sym at) in
        record {
          holds = λ j other p there stood. others p (λ none. none-some p none) ∙ kept.holds j other p there stood;
          only = λ j p found. kept.only j p (sym (others p (λ none. none-some p none)) ∙ found);
        }
    of (Some place) at here others =
        phy_unplugged stands now disks index i disk new is place at out here (λ other apart. others other (λ same. apart (sym (same_Some place other same))))

-- no disk stands anywhere
pub phy_added : (stands : Place → Option ℕ) (disks : List Disk) → ((place : Place) → stands place ≡ None) → IsPhyIndex stands (map as_added disks)
phy_added stands disks free = record { holds = holds; only = λ i place found. absurd (none-some i (sym (free place) ∙ found)) }
  where
    out : (xs : List Disk) (i : ℕ) (disk : FabricDisk) → slice_get (map as_added xs) i ≡ Some disk → disk.at ≡ None
    out [] i disk is = absurd (cc)
    out (x ∷ xs) zero disk is = ap (λ (d : FabricDisk). d.at) (sym (same_Some (as_added x) disk is))
    out (x ∷ xs) (suc i) disk is = out xs i disk is

    holds : (i : ℕ) (disk : FabricDisk) (place : Place) → slice_get (map as_added disks) i ≡ Some disk → disk.at ≡ Some place → stands place ≡ Some i
    holds i disk place is at = absurd (none-some place (sym (out disks i disk is) ∙ at))

-- ---- the table itself

slot_in : (place : Place) (slot : ℕ) (e p : Bool) → nat_lt place.expander 16 ≡ e → nat_lt place.phy 22 ≡ p → (if e && p then Some (22 * place.expander + place.phy) else None) ≡ Some slot
    → (place.expander < 16) × (place.phy < 22) × (slot ≡ 22 * place.expander + place.phy)
slot_in place slot true true e p is = (grind (arith, common_steps, e), grind (arith, common_steps, p), same_Some slot (22 * place.expander + place.phy) (sym is))
slot_in place slot true false e p is = absurd (cc)
slot_in place slot false p e q is = absurd (cc)

slot_is : (place : Place) (slot : ℕ) → slot_of place ≡ Some slot → (place.expander < 16) × (place.phy < 22) × (slot ≡ 22 * place.expander + place.phy)
slot_is place slot is = slot_in place slot (nat_lt place.expander 16) (nat_lt place.phy 22) refl refl is

pub slot_within : (place : Place) (slot : ℕ) → slot_of place ≡ Some slot → slot < 352
slot_within place slot is = let at = slot_is place slot is in omega (arith, at.0, at.1, at.2)

one_place : (p q : Place) (slot : ℕ) → slot_of p ≡ Some slot → slot_of q ≡ Some slot → p ≡ q
one_place p q slot first second =
    let a = slot_is p slot first in
    let b = slot_is q slot second in
    let expander : p.expander ≡ q.expander = omega (arith, a.1, a.2, b.1, b.2) in
    same_place p q expander (omega (arith, a.2, b.2, expander))

module _ (table : List (Option ℕ)) (place : Place) (slot : ℕ) (size : length table ≡ 352) (is : slot_of place ≡ Some slot) (disk : Option ℕ) where
  pub put_here : stands_in (set table slot disk) place ≡ disk
  put_here =
      let within = slot_within place slot is in
      rw is (get_or-set_same table slot disk None (omega (arith, within, size)))

  pub put_others : (other : Place) → other ≢ place → stands_in (set table slot disk) other ≡ stands_in table other
  put_others other apart = of (slot_of other) refl
    where
      of : (o : Option ℕ) → slot_of other ≡ o → stands_in (set table slot disk) other ≡ stands_in table other
      of None e = rw e refl
      of (Some k) e = rw e (get_or-set_other table slot k disk None (λ same. apart (one_place other place slot (e ∙ ap Some same) is)))

pub none_stands : (place : Place) → stands_in (replicate 352 None) place ≡ None
none_stands place = of (slot_of place) refl
  where
    of : (o : Option ℕ) → slot_of place ≡ o → stands_in (replicate 352 None) place ≡ None
    of None e = rw e refl
    of (Some k) e = rw e (get_or-replicate 352 k None None (slot_within place k e))

-- a phy at which a disk stands has a slot
slot_some : (table : List (Option ℕ)) (place : Place) (i : ℕ) → stands_in table place ≡ Some i → IsSome (slot_of place)
slot_some table place i found = of (slot_of place) refl
  where
    of : (o : Option ℕ) → slot_of place ≡ o → is_some o ≡ true
    of None e = absurd (none-some i (rw e at found))
    of (Some k) e = refl

-- and so has one of an expander
pub slot_there : (phys : List ℕ) (place : Place) → length phys ≤ 16 → All (λ count. count ≤ 22) phys → nat_lt place.phy (slice_index phys place.expander) ≡ true → IsSome (slot_of place)
slot_there phys place few counts there =
    let less : place.phy < slice_index phys place.expander = grind (arith, common_steps, there) in
    elim (cases_lt place.expander (length phys)) [
      | inl within ↦
          let most : slice_index phys place.expander ≤ 22 = counts place.expander 0 within in
          let expander : nat_lt place.expander 16 ≡ true = lt-ltb place.expander 16 (omega (arith, within, few)) in
          let phy : nat_lt place.phy 22 ≡ true = lt-ltb place.phy 22 (omega (arith, less, most)) in
          rw (expander, phy) refl
      | inr past ↦ absurd (omega (arith, less, get_or_past phys place.expander 0 past))
    ]

-- a disk that stands at a phy has a slot there
pub slot_stood : (table : List (Option ℕ)) (disks : List FabricDisk) → IsPhyIndex (stands_in table) disks → (i : ℕ) (disk : FabricDisk) → slice_get disks i ≡ Some disk
    → IfSome disk.at (λ place. IsSome (slot_of place))
slot_stood table disks index i disk is = of disk.at refl
  where
    of : (o : Option Place) → disk.at ≡ o → IfSome o (λ place. IsSome (slot_of place))
    of None at = tt
    of (Some place) at = slot_some table place i (index.holds i disk place is at)
