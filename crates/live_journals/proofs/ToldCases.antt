-- Each case of the host and of the fabric can be one with an input whose numbers an input can have: either its input was
-- entered, or it does nothing.
use Rattle.std.proofs.Common.{◌≡◌, ◌<◌, ◌∙◌, ℕ, [], ◌∷◌, ap, lit<, refl, sym}
use Rattle.std.specs.Prelude.{All, None, Option, Some}
use Rattle.std.proofs.lemmas.List.Elements.{All-head}
use Rattle.mpt_trace.specs.declared.entry.Entry.TheVariants as entry
use Rattle.mpt_trace.specs.declared.input.Input.{Input}
use Rattle.mpt_trace.specs.declared.input.Input.TheVariants as input
use Rattle.mpt_trace.specs.declared.refusal.Refusal.{Refusal}
use Rattle.mpt_trace.specs.declared.refusal.RefusedCall.{RefusedCall}
use Rattle.mpt_trace.specs.declared.refusal.RefusedCall.TheVariants as call
use Rattle.mpt_rules.specs.Fabric.Calls.{PlugRefusal, fabric_plugs, fabric_unplugs, fabric_unplugs_from, plug_refusal, plugs_disk, plugs_unless, unplugs_disk}
use Rattle.mpt_rules.specs.Fabric.Disks.{disk_of}
use Rattle.mpt_rules.specs.Fabric.Parts.{Fabric, FabricDisk, Place}
use Rattle.mpt_rules.specs.Host.Parts.{Host}
use Rattle.mpt_rules.specs.Outcome.{Called, Happening}
use Rattle.mpt_rules.specs.Session.Journals.{At}
use Rattle.mpt_rules.specs.Session.OpenCases.{FabricCase, HostCase, fabric_does, host_does}
use Rattle.mpt_rules.specs.Session.Sessions.{IsFabricCase, IsHostCase}
use Rattle.mpt_rules.specs.World.Inputs.{by_plug, host_told, refused_plug_entered, told_cause}
use Rattle.live_journals.specs.Parties.{IsEnteredInput}
use Rattle.live_journals.proofs.Cases.{Stands}

-- the case stands for itself
stays : {P C : Type 0} (does : P → C → Happening P) (Fits : At C → Type 0) (part : P) (c : At C) → Fits c → Stands does Fits part c
stays does Fits part c fits = record { other = c; fits = fits; stamp = refl; same = refl }

-- ---- the host

told_stands : (host : Host) (stamp : ℕ) (line : Input) → All IsEnteredInput (host_told host line).entries → Stands host_does IsHostCase host (record { stamp = stamp; value = HostCase.Told line })
told_stands host stamp input.Start h = stays host_does IsHostCase host (record { stamp = stamp; value = HostCase.Told input.Start }) tt
told_stands host stamp (input.Submit n address form) h =
    stays host_does IsHostCase host (record { stamp = stamp; value = HostCase.Told (input.Submit n address form) }) (All-head IsEnteredInput (entry.Given (input.Submit n address form)) _ h)
told_stands host stamp (input.Abort n) h =
    stays host_does IsHostCase host (record { stamp = stamp; value = HostCase.Told (input.Abort n) }) (All-head IsEnteredInput (entry.Given (input.Abort n)) _ h)
told_stands host stamp (input.TargetReset address) h =
    stays host_does IsHostCase host (record { stamp = stamp; value = HostCase.Told (input.TargetReset address) }) (All-head IsEnteredInput (entry.Given (input.TargetReset address)) _ h)
told_stands host stamp input.Reset h = stays host_does IsHostCase host (record { stamp = stamp; value = HostCase.Told input.Reset }) tt
told_stands host stamp input.UnitReset h = stays host_does IsHostCase host (record { stamp = stamp; value = HostCase.Told input.UnitReset }) tt
told_stands host stamp (input.Plug address expander phy) h =
    record { other = record { stamp = stamp; value = HostCase.Told (input.Unplug 0) }; fits = lit< tt; stamp = refl; same = refl }
told_stands host stamp (input.Unplug address) h =
    record { other = record { stamp = stamp; value = HostCase.Told (input.Unplug 0) }; fits = lit< tt; stamp = refl; same = refl }

host_case_stands : (host : Host) (stamp : ℕ) (v : HostCase) → All IsEnteredInput (host_does host v).entries → Stands host_does IsHostCase host (record { stamp = stamp; value = v })
host_case_stands host stamp (HostCase.Told line) h = told_stands host stamp line h
host_case_stands host stamp HostCase.Puts h = stays host_does IsHostCase host (record { stamp = stamp; value = HostCase.Puts }) tt
host_case_stands host stamp (HostCase.Takes queue next) h = stays host_does IsHostCase host (record { stamp = stamp; value = HostCase.Takes queue next }) tt
host_case_stands host stamp HostCase.Looks h = stays host_does IsHostCase host (record { stamp = stamp; value = HostCase.Looks }) tt
host_case_stands host stamp HostCase.Stops h = stays host_does IsHostCase host (record { stamp = stamp; value = HostCase.Stops }) tt
host_case_stands host stamp (HostCase.TakesAsk submitter ask) h = stays host_does IsHostCase host (record { stamp = stamp; value = HostCase.TakesAsk submitter ask }) tt
host_case_stands host stamp (HostCase.PutsTell submitter tell) h = stays host_does IsHostCase host (record { stamp = stamp; value = HostCase.PutsTell submitter tell }) tt

pub host_stands : (host : Host) (c : At HostCase) → All IsEnteredInput (host_does host c.value).entries → Stands host_does IsHostCase host c
host_stands host c h = host_case_stands host c.stamp c.value h

-- ---- a refused plug or unplug changes nothing

Stays : Fabric → Called Fabric (Option PlugRefusal) → Type 0
Stays fabric called = (c : PlugRefusal) → called.answer ≡ Some c → called.part ≡ fabric

unless_stays : (r : Option PlugRefusal) (fabric : Fabric) (disk : FabricDisk) (place : Place) → Stays fabric (plugs_unless r fabric disk place)
unfolding Stays
unless_stays (Some cause) fabric disk place c is = refl
unless_stays None fabric disk place c is = cc

disk_stays : (d : Option FabricDisk) (fabric : Fabric) (expander phy : ℕ) → Stays fabric (plugs_disk d fabric expander phy)
unfolding Stays
disk_stays None fabric expander phy c is = refl
disk_stays (Some disk) fabric expander phy c is = unless_stays (plug_refusal fabric disk expander phy) fabric disk (record { expander = expander; phy = phy }) c is

from_stays : (place : Option Place) (fabric : Fabric) (disk : FabricDisk) → Stays fabric (fabric_unplugs_from place fabric disk)
unfolding Stays
from_stays None fabric disk c is = refl
from_stays (Some place) fabric disk c is = cc

undisk_stays : (d : Option FabricDisk) (fabric : Fabric) → Stays fabric (unplugs_disk d fabric)
unfolding Stays
undisk_stays None fabric c is = refl
undisk_stays (Some disk) fabric c is = from_stays disk.at fabric disk c is

-- ---- the fabric

-- a case that does nothing
idle : (fabric part : Fabric) (stamp : ℕ) (line : Input) → part ≡ fabric → fabric_does fabric (FabricCase.Told line) ≡ record { part = part; entries = [] }
    → Stands fabric_does IsFabricCase fabric (record { stamp = stamp; value = FabricCase.Told line })
idle fabric part stamp line kept is =
    record {
      other = record { stamp = stamp; value = FabricCase.Told input.Start };
      fits = tt;
      stamp = refl;
      same = sym (is ∙ ap (λ (f : Fabric). record { part = f; entries = [] }) kept);
    }

module _ (fabric part : Fabric) (stamp : ℕ) (line : Input) (name : RefusedCall) where
  refused_stands : (cause : Option Refusal) → part ≡ fabric → fabric_does fabric (FabricCase.Told line) ≡ refused_plug_entered part line name cause
      → All IsEnteredInput (refused_plug_entered part line name cause).entries → Stands fabric_does IsFabricCase fabric (record { stamp = stamp; value = FabricCase.Told line })
  refused_stands None kept is h = idle fabric part stamp line kept is
  refused_stands (Some cause) kept is h =
      stays fabric_does IsFabricCase fabric (record { stamp = stamp; value = FabricCase.Told line }) (All-head IsEnteredInput (entry.Given line) (entry.Refuse name cause ∷ []) h)

  plug_stands : (answer : Option PlugRefusal) → ((r : PlugRefusal) → answer ≡ Some r → part ≡ fabric) → fabric_does fabric (FabricCase.Told line) ≡ by_plug line name answer part
      → All IsEnteredInput (by_plug line name answer part).entries → Stands fabric_does IsFabricCase fabric (record { stamp = stamp; value = FabricCase.Told line })
  plug_stands None kept is h = stays fabric_does IsFabricCase fabric (record { stamp = stamp; value = FabricCase.Told line }) (All-head IsEnteredInput (entry.Given line) [] h)
  plug_stands (Some r) kept is h = refused_stands (told_cause r) (kept r refl) is h

fabric_told_stands : (fabric : Fabric) (stamp : ℕ) (line : Input) → All IsEnteredInput (fabric_does fabric (FabricCase.Told line)).entries
    → Stands fabric_does IsFabricCase fabric (record { stamp = stamp; value = FabricCase.Told line })
unfolding Stays
fabric_told_stands fabric stamp (input.Plug address expander phy) h =
    let called : Called Fabric (Option PlugRefusal) = fabric_plugs fabric address expander phy in
    plug_stands fabric called.part stamp (input.Plug address expander phy) (call.Plug address) called.answer (disk_stays (disk_of fabric address) fabric expander phy) refl h
fabric_told_stands fabric stamp (input.Unplug address) h =
    let called : Called Fabric (Option PlugRefusal) = fabric_unplugs fabric address in
    plug_stands fabric called.part stamp (input.Unplug address) (call.Unplug address) called.answer (undisk_stays (disk_of fabric address) fabric) refl h
fabric_told_stands fabric stamp input.Start h = idle fabric fabric stamp input.Start refl refl
fabric_told_stands fabric stamp (input.Submit n address form) h = idle fabric fabric stamp (input.Submit n address form) refl refl
fabric_told_stands fabric stamp (input.Abort n) h = idle fabric fabric stamp (input.Abort n) refl refl
fabric_told_stands fabric stamp (input.TargetReset address) h = idle fabric fabric stamp (input.TargetReset address) refl refl
fabric_told_stands fabric stamp input.Reset h = idle fabric fabric stamp input.Reset refl refl
fabric_told_stands fabric stamp input.UnitReset h = idle fabric fabric stamp input.UnitReset refl refl

fabric_case_stands : (fabric : Fabric) (stamp : ℕ) (v : FabricCase) → All IsEnteredInput (fabric_does fabric v).entries → Stands fabric_does IsFabricCase fabric (record { stamp = stamp; value = v })
fabric_case_stands fabric stamp (FabricCase.Told line) h = fabric_told_stands fabric stamp line h
fabric_case_stands fabric stamp (FabricCase.Takes next) h = stays fabric_does IsFabricCase fabric (record { stamp = stamp; value = FabricCase.Takes next }) tt
fabric_case_stands fabric stamp FabricCase.Says h = stays fabric_does IsFabricCase fabric (record { stamp = stamp; value = FabricCase.Says }) tt
fabric_case_stands fabric stamp FabricCase.Puts h = stays fabric_does IsFabricCase fabric (record { stamp = stamp; value = FabricCase.Puts }) tt
fabric_case_stands fabric stamp (FabricCase.Runs tag) h = stays fabric_does IsFabricCase fabric (record { stamp = stamp; value = FabricCase.Runs tag }) tt
fabric_case_stands fabric stamp FabricCase.Calms h = stays fabric_does IsFabricCase fabric (record { stamp = stamp; value = FabricCase.Calms }) tt

pub fabric_stands : (fabric : Fabric) (c : At FabricCase) → All IsEnteredInput (fabric_does fabric c.value).entries → Stands fabric_does IsFabricCase fabric c
fabric_stands fabric c h = fabric_case_stands fabric c.stamp c.value h
