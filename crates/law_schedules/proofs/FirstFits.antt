-- The model in which nothing is queued goes with a world that was just made.
use Rattle.std.proofs.Common.{◌≡◌, ◌≢◌, ℕ, suc, ◌+◌, ◌<◌, ◌≤◌, ◌==◌, Bool, true, false, if◌then◌else◌, List, [], ◌∷◌, length, map, get_or, Option, Some, None, is_some, refl, ap, sym, ◌∙◌, arith}
use Rattle.std.specs.Prelude.{AllPairs}
use Rattle.std.specs.List.{find}
use Rattle.std.specs.Option.{option_and_then}
use Rattle.std.proofs.lemmas.Bool.Decides.{nat_tests}
use Rattle.mpt_trace.specs.declared.disk_spec.DiskSpec.{DiskSpec}
use Rattle.mpt_wire.specs.Fits.Queued.{nothing_queued}
use Rattle.mpt_rules.specs.Fabric.Disks.{has_address, stands_at}
use Rattle.mpt_rules.specs.Fabric.Parts.{FabricDisk, Place, new_disk, new_fabric}
use Rattle.mpt_rules.specs.Fabric.Tasks.{has_tag}
use Rattle.mpt_rules.specs.Host.Parts.{new_host}
use Rattle.mpt_rules.specs.Ioc.Parts.{new_ioc}
use Rattle.mpt_rules.specs.World.Counts.{how_many, one_if}
use Rattle.law_schedules.proofs.DiskCounts.{ArePlaced, counted_cons, counted_nil, is_plugged_disk, plug_at}
use Rattle.law_schedules.proofs.FabricModel.{FabricFits}
use Rattle.law_schedules.proofs.HostModel.{FitsOut}
use Rattle.law_schedules.proofs.QueueModel.{QueuesFit}

abbrev AreApart : List DiskSpec → Type 0
AreApart specs = AllPairs (λ (d e : DiskSpec). d.address ≢ e.address) specs

-- no disk of a new fabric has a place
no_place : (a : ℕ) (specs : List DiskSpec) → plug_at (map new_disk specs) a ≡ None
no_place a [] = refl
no_place a (d ∷ ds) = by_test (d.address == a) (no_place a ds)
  where
    by_test : (b : Bool) → plug_at (map new_disk ds) a ≡ None → option_and_then (λ (x : FabricDisk). x.at) (if b then Some (new_disk d) else find (has_address a) (map new_disk ds)) ≡ None
    by_test true h = refl
    by_test false h = h

none_pass : (test : FabricDisk → Bool) → ((d : DiskSpec) → test (new_disk d) ≡ false) → (specs : List DiskSpec) → how_many test (map new_disk specs) ≡ 0
none_pass test n [] = counted_nil test
none_pass test n (d ∷ ds) =
    let c = counted_cons test (new_disk d) (map new_disk ds) in
    let o : one_if (test (new_disk d)) ≡ 0 = ap one_if (n d) in
    let h = none_pass test n ds in
    omega (arith, c, o, h)

no_places : (phys : List ℕ) (specs : List DiskSpec) → ArePlaced phys (map new_disk specs)
no_places phys [] = tt
no_places phys (d ∷ ds) = (tt, no_places phys ds)

-- where none of the disks has this address
none_has : (a : ℕ) (specs : List DiskSpec) → ((i : ℕ) (e : DiskSpec) → i < length specs → a ≢ (get_or specs i e).address) → how_many (has_address a) (map new_disk specs) ≡ 0
none_has a [] n = counted_nil (has_address a)
none_has a (d ∷ ds) n =
    let c = counted_cons (has_address a) (new_disk d) (map new_disk ds) in
    let h = none_has a ds (λ i e l. n (suc i) e (omega (arith, l))) in
    let r = n 0 d (omega arith) in
    let t : (d.address == a) ≡ false = grind (arith, r) in
    let o : one_if (has_address a (new_disk d)) ≡ 0 = ap one_if t in
    omega (arith, c, h, o)

-- an address is that of one disk at most
few_have : (a : ℕ) (specs : List DiskSpec) → AreApart specs → how_many (has_address a) (map new_disk specs) ≤ 1
few_have a [] p = let c = counted_nil (has_address a) in omega (arith, c)
few_have a (d ∷ ds) p = by_test (d.address == a) refl (few_have a ds (λ i j e l m. p (suc i) (suc j) e (omega (arith, l)) (omega (arith, m)))) (counted_cons (has_address a) (new_disk d) (map new_disk ds))
  where
    by_test : (b : Bool) → (d.address == a) ≡ b → how_many (has_address a) (map new_disk ds) ≤ 1
        → how_many (has_address a) (new_disk d ∷ map new_disk ds) ≡ one_if (has_address a (new_disk d)) + how_many (has_address a) (map new_disk ds)
        → how_many (has_address a) (new_disk d ∷ map new_disk ds) ≤ 1
    by_test true t ih c =
        let is : d.address ≡ a = grind (arith, nat_tests, t) in
        let o : one_if (has_address a (new_disk d)) ≡ 1 = ap one_if t in
        let h = none_has a ds (λ i e l z. p 0 (suc i) e (omega arith) (omega (arith, l)) (is ∙ z)) in
        omega (arith, h, c, o)
    by_test false t ih c = let o : one_if (has_address a (new_disk d)) ≡ 0 = ap one_if t in omega (arith, ih, c, o)

pub fabric_first : (specs : List DiskSpec) (phys : List ℕ) → AreApart specs → FabricFits nothing_queued (new_fabric specs phys)
fabric_first specs phys apart =
    record {
      on_is = refl;
      tasks_are = refl;
      notices_are = refl;
      to_put_are = refl;
      plugged_once = λ a. counted_nil (λ (x : ℕ). x == a) ∙ ap (λ (o : Option Place). one_if (is_some o)) (sym (no_place a specs));
      as_many = sym (none_pass is_plugged_disk (λ d. refl) specs);
      tags = λ tag. let c = counted_nil (has_tag tag) in omega (arith, c);
      no_calm = refl;
      notices_calm = refl;
      addresses = λ a. few_have a specs apart;
      single = λ e p. let c = none_pass (stands_at e p) (λ d. refl) specs in omega (arith, c);
      placed = no_places phys specs;
    }

pub queues_first : (phys : List ℕ) (queues : ℕ) → QueuesFit nothing_queued (new_ioc phys queues)
queues_first phys queues = record { high_are = refl; normal_are = refl; plain = refl }

pub out_first : (queues : ℕ) → FitsOut nothing_queued.starts nothing_queued.unposted (new_host queues).out
out_first queues = record { few = omega arith; begins = λ s. absurd (cc) }
