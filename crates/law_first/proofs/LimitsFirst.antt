-- The limits hold of the first world of a setting that keeps them.
use Rattle.std.proofs.Common.{◌≡◌, ◌≢◌, ◌<◌, ◌≤◌, List, map, length, get_or, refl, ap, sym, ◌∙◌, arith}
use Rattle.std.specs.List.{AllPairs}
use Rattle.std.proofs.lemmas.List.{get_or-map}
use Rattle.std.proofs.lemmas.List.Elements.{All-map, All-nil, All-replicate}
use Rattle.smid_pool.specs.Pool.{Free}
use Rattle.mpt_trace.specs.declared.disk_spec.DiskSpec.{DiskSpec}
use Rattle.mpt_rules.specs.declared.binding.Binding.TheVariants as binding
use Rattle.mpt_rules.specs.Fabric.Parts.{FabricDisk, new_disk}
use Rattle.mpt_rules.specs.World.Settings.{IsSetting, Setting, first_world}
use Rattle.mpt_rules.specs.World.State.{World}
use Rattle.law_facts.specs.Limits.{BindingFits, IsAddress, Limits, NoticeFits, RecordFits, WaitFits, WaitingFits}
use Rattle.law_flights.proofs.IocTakes.{length_map}
use Rattle.law_first.proofs.Empty.{no_key}

-- a relation of the addresses of disks is one of the addresses they are made with
apart_map : (specs : List DiskSpec) → AllPairs (λ (d e : DiskSpec). d.address ≢ e.address) specs → AllPairs (λ (d e : FabricDisk). d.address ≢ e.address) (map new_disk specs)
apart_map specs h i j d l m =
    let n : length (map new_disk specs) ≡ length specs = length_map new_disk specs in
    let k : j < length specs = omega (arith, m, n) in
    let blank : DiskSpec = record { address = 0; blocks = 0 } in
    let a : get_or (map new_disk specs) i d ≡ new_disk (get_or specs i blank) = get_or-map new_disk specs i blank d (omega (arith, l, k)) in
    let b : get_or (map new_disk specs) j d ≡ new_disk (get_or specs j blank) = get_or-map new_disk specs j blank d k in
    let r = h i j blank l k in
    λ e. r (sym (ap (λ (x : FabricDisk). x.address) a) ∙ (e ∙ ap (λ (x : FabricDisk). x.address) b))

module _ (s : Setting) (i : IsSetting s) where
  abbrev w : World
  w = first_world s

  few : length w.fabric.disks ≤ 64
  few = let n : length (map new_disk s.disks) ≡ length s.disks = length_map new_disk s.disks in let l = i.few_disks in omega (arith, n, l)

  pub limits_first : Limits w
  limits_first =
      record {
        few_disks = few;
        addresses = All-map (λ (d : FabricDisk). IsAddress d.address) new_disk s.disks i.addresses;
        apart = apart_map s.disks i.apart;
        few_expanders = i.few_expanders;
        phys = i.phys;
        context = omega arith;
        bindings = All-replicate BindingFits 64 binding.Unbound tt;
        waiting = All-nil WaitingFits;
        notices = All-nil NoticeFits;
        records = All-replicate RecordFits 280 Free tt;
        waits = All-nil WaitFits;
        cmds = λ n c e. no_key w.host.cmds refl n c e;
      }
