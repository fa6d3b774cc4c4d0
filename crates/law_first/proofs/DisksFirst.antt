-- The facts of the machine of disks hold of the first world: its disks are the fabric's, of zeros and not plugged.
use Rattle.std.proofs.Common.{◌≡◌, ℕ, ◌==◌, ◌&&◌, Bool, true, false, cond, if◌then◌else◌, List, [], ◌∷◌, map, Some, is_some, is_none, refl, ap, sym, ◌∙◌, arith}
use Rattle.std.specs.FinMap as finmap
use Rattle.std.specs.FinSet as set
use Rattle.std.specs.List.{count_by, find}
use Rattle.std.specs.Ordering.{nat_cmp}
use Rattle.std.proofs.lemmas.Cmp.{nat_cmp_total}
use Rattle.smid_pool.specs.Pool.{Free, all_free, is_open, slots_in}
use Rattle.mpt_rules.specs.declared.request.Request.{Request}
use Rattle.smid_pool.specs.declared.class.Class.TheVariants.{ScsiIo}
use Rattle.mpt_trace.specs.declared.disk_spec.DiskSpec.{DiskSpec}
use Rattle.mpt_wire.specs.Machine.State.{disks_of}
use Rattle.mpt_rules.specs.Fabric.Disks.{has_address}
use Rattle.mpt_rules.specs.Fabric.Parts.{FabricDisk, new_disk}
use Rattle.mpt_rules.specs.World.Settings.{Setting, first_world}
use Rattle.mpt_rules.specs.World.State.{World}
use Rattle.law_facts.specs.Disks.{DiskIs, Disks, SameCounts, SameNumber}
use Rattle.law_facts.specs.History.{History, first_history}
use Rattle.law_facts.specs.Words.{resets_address}
use Rattle.law_first.proofs.ClockFirst.{never}
use Rattle.law_first.proofs.Empty.{no_key, no_key_is, none_of}

-- of sets of nothing
none_in : (n : ℕ) → set.contains (set.empty {R = nat_cmp}) n ≡ false
none_in n = set.contains-empty nat_cmp n

none_common : set.len (set.intersection (set.empty {R = nat_cmp}) set.empty) ≡ 0
none_common =
    let same : set.intersection (set.empty {R = nat_cmp}) set.empty ≡ set.empty =
    set.same_set nat_cmp_total set.nat_cmp-IsAntisymmetric (set.intersection set.empty set.empty) set.empty
    (λ q. set.contains-intersection nat_cmp_total set.empty set.empty q ∙ (ap (λ b. b && set.contains (set.empty {R = nat_cmp}) q) (none_in q) ∙ sym (none_in q))) in
    ap set.len same ∙ set.len-empty nat_cmp

-- the same disks on both sides
made_addresses : (specs : List DiskSpec) → map (λ (d : DiskSpec). d.address) specs ≡ map (λ (d : FabricDisk). d.address) (map new_disk specs)
made_addresses [] = refl
made_addresses (d ∷ specs) = ap (λ xs. d.address ∷ xs) (made_addresses specs)

made_disks : (a : ℕ) (specs : List DiskSpec) → DiskIs (disks_of specs a) (find (has_address a) (map new_disk specs))
made_disks a [] = tt
made_disks a (d ∷ specs) = by_key (a == d.address) (d.address == a) (either (a == d.address) (d.address == a) refl refl) (made_disks a specs)
  where
    either : (x y : Bool) → (a == d.address) ≡ x → (d.address == a) ≡ y → x ≡ y
    either true true e f = refl
    either false false e f = refl
    either true false e f = absurd (grind (arith, e, f))
    either false true e f = absurd (grind (arith, e, f))

    by_key : (x y : Bool) → x ≡ y → DiskIs (disks_of specs a) (find (has_address a) (map new_disk specs))
        → DiskIs (if x then Some (Rattle.mpt_wire.specs.Machine.State.zero_disk d) else disks_of specs a) (cond y (Some (new_disk d)) (find (has_address a) (map new_disk specs)))
    by_key true true e k = (refl, refl, refl, omega arith, λ t. never t)
    by_key false false e k = k
    by_key true false e k = absurd (cc)
    by_key false true e k = absurd (cc)

none_open : 0 ≡ count_by is_open (slots_in ScsiIo (all_free {R = Request}))
none_open = refl

module _ (s : Setting) where
  abbrev w : World
  w = first_world s

  abbrev h : History
  h = first_history s.disks

  number : (n : ℕ) → SameNumber w h n
  number n =
      record {
        requests = ap is_some (no_key_is h.machine.requests refl n) ∙ sym (ap is_some (no_key_is w.host.cmds refl n));
        aborts = none_in n ∙ sym (ap is_some (no_key_is w.host.aborts refl n));
        closed = none_in n ∙ sym (ap (λ b. b && is_none (finmap.get w.host.cmds n)) (none_in n));
        accepted = λ e. let f : false ≡ true = sym (ap is_some (no_key_is w.host.cmds refl n)) ∙ e in never f;
        unused = λ e. refl;
      }

  counts : SameCounts w h
  counts =
      record {
        mode = refl;
        requests = finmap.len-empty nat_cmp _ ∙ none_open;
        aborts = none_common;
        resets = refl;
        leaving = λ e. never e;
        high = λ e. never e;
      }

  pub disks_first : Disks w h
  disks_first =
      record {
        numbers = number;
        counts = counts;
        resets = λ address. sym (none_of (resets_address address) 280 Free refl);
        disks = record { addresses = made_addresses s.disks; phys = refl };
        disk = λ address. made_disks address s.disks;
        opened = λ n c r e. no_key w.host.cmds refl n c e;
        made = λ address. omega arith;
        ready = λ e. never e;
        ready_once = λ e. never e;
        new = λ e. never e;
        never = λ e. never e;
      }
