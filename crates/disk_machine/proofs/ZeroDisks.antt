-- The disks of zeros, as declared one by one.
use Rattle.std.proofs.Common.{◌≡◌, ℕ, Bool, true, false, cond, List, [], ◌∷◌, ◌++◌, Option, Some, None, refl, ap, ◌∙◌, eqb, ◌⊎◌, inl, inr, ◌+◌, ◌<◌, length, take, get_or, add-one, arith}
use Rattle.std.proofs.Math.Seq.{take-suc}
use Rattle.std.specs.Option.{is_some, option_map, option_or}
use Rattle.std.specs.Ordering.{is_eq, nat_cmp}
use Rattle.std.specs.Cmp.{eq_by_cmp_equiv, nat_cmp_total, unsigned_tied}
use Rattle.std.specs.BTreeMap as tree
use Rattle.std.specs.BTreeMap.{BTreeMap}
use Rattle.std.proofs.lemmas.Bool.{cases_Bool}
use Rattle.mpt_trace.specs.declared.disk_spec.DiskSpec.{DiskSpec}
use Rattle.mpt_wire.specs.Machine.State.{MachineDisk, disks_of, zero_disk}
use Rattle.disk_machine.specs.declared.traced_disk.TracedDisk.{TracedDisk}
use Rattle.disk_machine.specs.Machine.{AddsDisk, HasDisks, seen_disk, seen_traced}

-- the test of a key, in the map's words
is_key : (k q : ℕ) → is_eq (nat_cmp k q) ≡ eqb q k
is_key k q = (eq_by_cmp_equiv nat_cmp_total).symm k q ∙ unsigned_tied q k

-- one more declaration comes after all others
disks_of-push : (disks : List DiskSpec) (d : DiskSpec) (a : ℕ) → disks_of (disks ++ d ∷ []) a ≡ option_or (disks_of disks a) (cond (eqb a d.address) (Some (zero_disk d)) None)
disks_of-push [] d a = refl
disks_of-push (e ∷ disks) d a = by_test (eqb a e.address) _ _ _ (disks_of-push disks d a)
  where
    by_test : (b : Bool) (x y z : Option MachineDisk) → x ≡ option_or y z → cond b (Some (zero_disk e)) x ≡ option_or (cond b (Some (zero_disk e)) y) z
    by_test true x y z is = refl
    by_test false x y z is = is

-- there is one of the address
pub AddsDisk-there : (t : BTreeMap ℕ TracedDisk) (d : DiskSpec) → is_some (tree.get nat_cmp t d.address) ≡ true → AddsDisk t t d
AddsDisk-there t d there = λ disks has a. rw disks_of-push (by_disk disks a (disks_of disks a) (has a))
  where
    by_disk : (disks : List DiskSpec) (a : ℕ) (o : Option MachineDisk) → option_map seen_traced (tree.get nat_cmp t a) ≡ option_map seen_disk o → option_map seen_traced (tree.get nat_cmp t a) ≡ option_map seen_disk (option_or o (cond (eqb a d.address) (Some (zero_disk d)) None))
    by_disk disks a (Some x) is = is
    by_disk disks a None is =
        elim (cases_Bool (eqb a d.address)) [
          | inl same ↦ let at : a ≡ d.address = grind (arith, same) in absurd (none_there (tree.get nat_cmp t a) (rw at there) is)
          | inr differs ↦ rw differs is
        ]
      where
        none_there : (o : Option TracedDisk) → is_some o ≡ true → option_map seen_traced o ≡ None → ⊥
        none_there None some is = cc
        none_there (Some x) some is = cc

-- it is new
pub AddsDisk-new : (t u : BTreeMap ℕ TracedDisk) (d : DiskSpec) (disk : TracedDisk) → is_some (tree.get nat_cmp t d.address) ≡ false → seen_traced disk ≡ seen_disk (zero_disk d) → ((q : ℕ) → tree.get nat_cmp u q ≡ cond (is_eq (nat_cmp d.address q)) (Some disk) (tree.get nat_cmp t q)) → AddsDisk t u d
AddsDisk-new t u d disk absent zero is = λ disks has a. rw (disks_of-push disks d a, is a, is_key d.address a) (by_test disks has a (cases_Bool (eqb a d.address)))
  where
    none_here : (o : Option TracedDisk) (p : Option MachineDisk) → is_some o ≡ false → option_map seen_traced o ≡ option_map seen_disk p → p ≡ None
    none_here None None some is = refl
    none_here None (Some y) some is = cc
    none_here (Some x) p some is = cc

    or_none : {X : Type 0} (o : Option X) → option_or o None ≡ o
    or_none None = refl
    or_none (Some x) = refl

    by_test : (disks : List DiskSpec) → HasDisks t (disks_of disks) → (a : ℕ) → (eqb a d.address ≡ true) ⊎ (eqb a d.address ≡ false) → option_map seen_traced (cond (eqb a d.address) (Some disk) (tree.get nat_cmp t a)) ≡ option_map seen_disk (option_or (disks_of disks a) (cond (eqb a d.address) (Some (zero_disk d)) None))
    by_test disks has a (inl same) =
        let at : a ≡ d.address = grind (arith, same) in
        let none : disks_of disks a ≡ None = none_here (tree.get nat_cmp t a) (disks_of disks a) (rw at absent) (has a) in
        rw (same, none) (ap Some zero)
    by_test disks has a (inr differs) = rw (differs, or_none (disks_of disks a)) (has a)

-- the same, where the one declaration more is the next in the list
pub HasDisks-next : (t u : BTreeMap ℕ TracedDisk) (disks : List DiskSpec) (i : ℕ) (default : DiskSpec) → i < length disks → AddsDisk t u (get_or disks i default) → HasDisks t (disks_of (take i disks)) → HasDisks u (disks_of (take (i + 1) disks))
HasDisks-next t u disks i default below adds has = rw (add-one, take-suc disks i default below) (adds (take i disks) has)
