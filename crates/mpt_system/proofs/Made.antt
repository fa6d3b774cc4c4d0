-- What a system is made of is a setting within the limits, and what is made is its first world.
use Rattle.std.proofs.Common.{◌≡◌, ◌≢◌, ℕ, ◌<◌, ◌≤◌, ◌^◌, ◌&&◌, nat_le, nat_lt, not, Bool, true, false, if◌then◌else◌, List, [], ◌∷◌, length, map, replicate, Option, Some, None, refl, subst, arith}
use Rattle.std.specs.Prelude.{All, AllPairs}
use Rattle.std.specs.List.{list_all, list_any}
use Rattle.std.proofs.lemmas.Bool.{and_parts}
use Rattle.std.proofs.lemmas.Grind.{common_steps}
use Rattle.std.proofs.lemmas.List.{length-map}
use Rattle.std.proofs.lemmas.List.Elements.{All-cons, All-nil}
use Rattle.std.proofs.lemmas.List.Kept.{AllPairs-cons}
use Rattle.mpt_trace.specs.declared.disk_spec.DiskSpec.{DiskSpec}
use Rattle.mpt_rules.specs.Host.Parts.{new_host}
use Rattle.mpt_rules.specs.Ioc.Parts.{new_ioc}
use Rattle.mpt_rules.specs.World.Settings.{IsFromTo, IsSetting}
use Rattle.sas_fabric.specs.Making.{is_disk_of, is_phy_count, is_same_address, making_refusal, zero_disk}
use Rattle.mpt_system.specs.Making.{has_fit_blocks, joined}
use Rattle.mpt_system.specs.Parties.{whole_of}
use Rattle.mpt_system.specs.declared.parties.Parties.{Parties}

between : (least most n : ℕ) → (nat_le least n && nat_le n most) ≡ true → IsFromTo least most n
between least most n h = let p = and_parts (nat_le least n) (nat_le n most) h in (grind (arith, common_steps, p), grind (arith, common_steps, p))

blocks_fit : (disks : List DiskSpec) → list_all has_fit_blocks disks ≡ true → All (λ (d : DiskSpec). IsFromTo 1 1024 d.blocks) disks
blocks_fit [] h = All-nil (λ (d : DiskSpec). IsFromTo 1 1024 d.blocks)
blocks_fit (disk ∷ disks) h =
    let p = and_parts (has_fit_blocks disk) (list_all has_fit_blocks disks) h in
    All-cons (λ (d : DiskSpec). IsFromTo 1 1024 d.blocks) disk disks (between 1 1024 disk.blocks p.0) (blocks_fit disks p.1)

phys_fit : (phys : List ℕ) → list_all is_phy_count phys ≡ true → All (IsFromTo 1 22) phys
phys_fit [] h = All-nil (IsFromTo 1 22)
phys_fit (count ∷ phys) h =
    let p = and_parts (is_phy_count count) (list_all is_phy_count phys) h in
    All-cons (IsFromTo 1 22) count phys (between 1 22 count p.0) (phys_fit phys p.1)

-- no disk behind this one has its address
others : (disk : DiskSpec) (disks : List DiskSpec) → list_any (is_disk_of disk.address) (map zero_disk disks) ≡ false → All (λ (e : DiskSpec). disk.address ≢ e.address) disks
others disk [] h = All-nil (λ (e : DiskSpec). disk.address ≢ e.address)
others disk (e ∷ rest) h =
    All-cons (λ (e : DiskSpec). disk.address ≢ e.address) e rest (λ same. grind (arith, common_steps, h, same)) (others disk rest (grind (arith, common_steps, h)))

apart : (disks : List DiskSpec) → is_same_address (map zero_disk disks) ≡ false → AllPairs (λ (d e : DiskSpec). d.address ≢ e.address) disks
apart [] h = λ i j d less within. absurd (omega arith)
apart (disk ∷ disks) h =
    AllPairs-cons (λ (d e : DiskSpec). d.address ≢ e.address) disk disks (others disk disks (grind (arith, common_steps, h))) (apart disks (grind (arith, common_steps, h)))

-- nothing is refused: the test failed, and nothing that is looked for behind it is there
passed : {A : Type 0} (b : Bool) (x : A) (o : Option A) → (if b then Some x else o) ≡ None → (b ≡ false) × (o ≡ None)
passed true x o h = cc
passed false x o h = (refl, h)

not_more : (most n : ℕ) → nat_lt most n ≡ false → n ≤ most
not_more most n h = grind (arith, common_steps, h)

-- what isn't refused is within the limits
pub within_limits : (disks : List DiskSpec) (phys : List ℕ) (q : ℕ) → list_all has_fit_blocks disks ≡ true → making_refusal (map zero_disk disks) phys ≡ None
    → All (λ (d : DiskSpec). d.address < 256 ^ 8) disks → IsFromTo 1 8 q → IsSetting (record { disks = disks; phys = phys; queues = q })
within_limits disks phys q blocks made addresses queues =
    let many = passed (nat_lt 64 (length (map zero_disk disks))) _ _ made in
    let same = passed (is_same_address (map zero_disk disks)) _ _ many.1 in
    let expanders = passed (nat_lt 16 (length phys)) _ _ same.1 in
    let counts = passed (not (list_all is_phy_count phys)) _ _ expanders.1 in
    record {
      few_disks = not_more 64 (length disks) (subst (λ n. nat_lt 64 n ≡ false) (length-map disks zero_disk) many.0);
      addresses = addresses;
      apart = apart disks same.0;
      blocks = blocks_fit disks blocks;
      few_expanders = not_more 16 (length phys) expanders.0;
      phys = phys_fit phys (is_true (list_all is_phy_count phys) counts.0);
      few_queues = queues;
    }
  where
    is_true : (b : Bool) → not b ≡ false → b ≡ true
    is_true true h = refl
    is_true false h = cc

-- the parties as they are made are the whole as it is made
pub joined_is : (p : Parties) (phys : List ℕ) (q : ℕ) → p.host.host ≡ new_host q → p.host.told ≡ [] → p.ioc.part ≡ new_ioc phys q → p.ioc.told ≡ []
    → p.down.items ≡ [] → p.up ≡ replicate q [] → p.out.items ≡ [] → p.back.items ≡ [] → p.trace.entries ≡ [] → whole_of p ≡ joined p.fabric phys q
joined_is p phys q host told ioc ioc_told down up out back trace = cc
