-- What the head of a schedule declares is within the limits, so that it isn't refused.
use Rattle.std.proofs.Common.{◌≡◌, ◌≢◌, ℕ, suc, ◌&&◌, ◌==◌, nat_le, nat_lt, true, false, List, [], ◌∷◌, length, map, None, refl, subst, arith}
use Rattle.std.specs.Prelude.{All, AllPairs}
use Rattle.std.specs.List.{list_all, list_any}
use Rattle.std.proofs.lemmas.Grind.{common_steps}
use Rattle.std.proofs.lemmas.List.{length-map}
use Rattle.mpt_trace.specs.declared.disk_spec.DiskSpec.{DiskSpec}
use Rattle.mpt_rules.specs.World.Settings.{IsFromTo, IsSetting, Setting}
use Rattle.sas_fabric.specs.Making.{is_disk_of, is_phy_count, is_same_address, zero_disk}
use Rattle.mpt_system.specs.Making.{has_fit_blocks, system_refusal}
use Rattle.std.proofs.lemmas.List.Elements.{All-head, All-tail}
use Rattle.mpt_system.specs.Making.{IsCause}
use Rattle.mpt_system.specs.declared.faults.SystemFault.{SystemFault}
use Rattle.mpt_system.specs.declared.faults.SystemFault.TheVariants as fault

is_within : (least most n : ℕ) → IsFromTo least most n → (nat_le least n && nat_le n most) ≡ true
is_within least most n h = grind (arith, common_steps, h)

blocks_fit : (disks : List DiskSpec) → All (λ (d : DiskSpec). IsFromTo 1 1024 d.blocks) disks → list_all has_fit_blocks disks ≡ true
blocks_fit [] h = refl
blocks_fit (disk ∷ disks) h =
    let first : has_fit_blocks disk ≡ true = is_within 1 1024 disk.blocks (All-head (λ (d : DiskSpec). IsFromTo 1 1024 d.blocks) disk disks h) in
    let rest = blocks_fit disks (All-tail (λ (d : DiskSpec). IsFromTo 1 1024 d.blocks) disk disks h) in
    rw (first, rest) refl

phys_fit : (phys : List ℕ) → All (IsFromTo 1 22) phys → list_all is_phy_count phys ≡ true
phys_fit [] h = refl
phys_fit (count ∷ phys) h =
    let first : is_phy_count count ≡ true = is_within 1 22 count (All-head (IsFromTo 1 22) count phys h) in
    let rest = phys_fit phys (All-tail (IsFromTo 1 22) count phys h) in
    rw (first, rest) refl

-- no disk behind this one has its address
none_of : (disk : DiskSpec) (disks : List DiskSpec) → All (λ (e : DiskSpec). disk.address ≢ e.address) disks → list_any (is_disk_of disk.address) (map zero_disk disks) ≡ false
none_of disk [] h = refl
none_of disk (e ∷ rest) h =
    let apart = All-head (λ (x : DiskSpec). disk.address ≢ x.address) e rest h in
    let others = none_of disk rest (All-tail (λ (x : DiskSpec). disk.address ≢ x.address) e rest h) in
    let first : (e.address == disk.address) ≡ false = grind (arith, common_steps, apart) in
    rw (first, others) refl

apart_fit : (disks : List DiskSpec) → AllPairs (λ (d e : DiskSpec). d.address ≢ e.address) disks → is_same_address (map zero_disk disks) ≡ false
apart_fit [] h = refl
apart_fit (disk ∷ disks) h =
    let first = none_of disk disks (λ i d less. h 0 (suc i) d (omega arith) (omega arith)) in
    let rest = apart_fit disks (λ i j d less within. h (suc i) (suc j) d (omega arith) (omega arith)) in
    rw (first, rest) refl

-- what is within the limits isn't refused
pub not_refused : (s : Setting) → IsSetting s → system_refusal s.disks s.phys ≡ None
not_refused s h =
    let few : nat_lt 64 (length (map zero_disk s.disks)) ≡ false = let k = h.few_disks in let e = length-map s.disks zero_disk in grind (arith, common_steps, k, e) in
    let expanders : nat_lt 16 (length s.phys) ≡ false = let k = h.few_expanders in grind (arith, common_steps, k) in
    rw (blocks_fit s.disks h.blocks, few, apart_fit s.disks h.apart, expanders, phys_fit s.phys h.phys) refl

-- so no fault comes but want of memory
pub only_memory : (s : Setting) (f : SystemFault) → IsSetting s → IsCause (system_refusal s.disks s.phys) f → f ≡ fault.OutOfMemory
only_memory s f h cause = by_fault f (subst (λ o. IsCause o f) (not_refused s h) cause)
  where
    by_fault : (f : SystemFault) → IsCause None f → f ≡ fault.OutOfMemory
    by_fault fault.BadBlocks e = absurd (cc)
    by_fault fault.TooManyDisks e = absurd (cc)
    by_fault fault.SameAddress e = absurd (cc)
    by_fault fault.TooManyExpanders e = absurd (cc)
    by_fault fault.BadPhys e = absurd (cc)
    by_fault fault.OutOfMemory e = refl
