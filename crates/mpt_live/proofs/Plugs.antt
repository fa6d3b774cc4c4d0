-- What a plug or an unplug leaves, by what the call answered.
use Rattle.std.proofs.Common.{◌≡◌, ◌≢◌, ◌∙◌, ℕ, ap, refl, sym}
use Rattle.std.specs.Prelude.{Err, None, Ok, OnErr, OnOk, Option, Result, Some}
use Rattle.mpt_trace.specs.declared.input.Input.{Input}
use Rattle.mpt_trace.specs.declared.refusal.Refusal.{Refusal}
use Rattle.mpt_trace.specs.declared.refusal.RefusedCall.{RefusedCall}
use Rattle.mpt_rules.specs.Fabric.Calls.{PlugRefusal, fabric_plugs, fabric_unplugs, fabric_unplugs_from, plug_refusal, plugs_disk, plugs_unless, unplugs_disk}
use Rattle.mpt_rules.specs.Fabric.Disks.{disk_of}
use Rattle.mpt_rules.specs.Fabric.Parts.{Fabric, FabricDisk, Place}
use Rattle.mpt_rules.specs.Outcome.{Called}
use Rattle.mpt_rules.specs.World.Inputs.{by_plug, plug_called, refused_plug_entered, told_cause}
use Rattle.mpt_live.specs.Recorded.{Recorded, next_stamp, stamped_with}
use Rattle.sas_fabric.specs.Faults.{refusal_in}
use Rattle.sas_fabric.specs.declared.faults.PlugFault.{PlugFault}
use Rattle.sas_fabric.specs.declared.faults.PlugFault.TheVariants as fault

-- ---- a refused call changes nothing

pub Stays : Fabric → Called Fabric (Option PlugRefusal) → Type 0
Stays fabric called = (c : PlugRefusal) → called.answer ≡ Some c → called.part ≡ fabric

unless_stays : (r : Option PlugRefusal) (fabric : Fabric) (disk : FabricDisk) (place : Place) → Stays fabric (plugs_unless r fabric disk place)
unfolding Stays
unless_stays (Some cause) fabric disk place c is = refl
unless_stays None fabric disk place c is = cc

disk_stays : (d : Option FabricDisk) (fabric : Fabric) (expander phy : ℕ) → Stays fabric (plugs_disk d fabric expander phy)
unfolding Stays
disk_stays None fabric expander phy c is = refl
disk_stays (Some disk) fabric expander phy c is = unless_stays (plug_refusal fabric disk expander phy) fabric disk (record { expander = expander; phy = phy }) c is

pub plug_stays : (fabric : Fabric) (address expander phy : ℕ) → Stays fabric (fabric_plugs fabric address expander phy)
plug_stays fabric address expander phy = disk_stays (disk_of fabric address) fabric expander phy

from_stays : (place : Option Place) (fabric : Fabric) (disk : FabricDisk) → Stays fabric (fabric_unplugs_from place fabric disk)
unfolding Stays
from_stays None fabric disk c is = refl
from_stays (Some place) fabric disk c is = cc

undisk_stays : (d : Option FabricDisk) (fabric : Fabric) → Stays fabric (unplugs_disk d fabric)
unfolding Stays
undisk_stays None fabric c is = refl
undisk_stays (Some disk) fabric c is = from_stays disk.at fabric disk c is

pub unplug_stays : (fabric : Fabric) (address : ℕ) → Stays fabric (fabric_unplugs fabric address)
unplug_stays fabric address = undisk_stays (disk_of fabric address) fabric

-- ---- what is left, and what is entered

by_refused-part : (input : Input) (call : RefusedCall) (cause : Option Refusal) (fabric : Fabric) → (refused_plug_entered fabric input call cause).part ≡ fabric
by_refused-part input call None fabric = refl
by_refused-part input call (Some cause) fabric = refl

by_plug-part : (input : Input) (call : RefusedCall) (answer : Option PlugRefusal) (fabric : Fabric) → (by_plug input call answer fabric).part ≡ fabric
by_plug-part input call None fabric = refl
by_plug-part input call (Some r) fabric = by_refused-part input call (told_cause r) fabric

by_refused-entries : (input : Input) (call : RefusedCall) (cause : Option Refusal) (f g : Fabric) → (refused_plug_entered f input call cause).entries ≡ (refused_plug_entered g input call cause).entries
by_refused-entries input call None f g = refl
by_refused-entries input call (Some cause) f g = refl

by_plug-entries : (input : Input) (call : RefusedCall) (answer : Option PlugRefusal) (f g : Fabric) → (by_plug input call answer f).entries ≡ (by_plug input call answer g).entries
by_plug-entries input call None f g = refl
by_plug-entries input call (Some r) f g = by_refused-entries input call (told_cause r) f g

pub plug_entries : (input : Input) (call : RefusedCall) (answer : Option PlugRefusal) (called : Called Fabric (Option PlugRefusal)) (f : Fabric) → answer ≡ called.answer
    → (by_plug input call answer f).entries ≡ (plug_called input call called).entries
plug_entries input call answer called f is = by_plug-entries input call answer f called.part ∙ ap (λ (a : Option PlugRefusal). (by_plug input call a called.part).entries) is

-- the call wasn't refused for want of memory
abbrev pub IsKnown : Result (Unit {0}) PlugFault → Type 0
IsKnown answer = answer ≢ Err fault.OutOfMemory

refused-part : (e : PlugFault) (old new : Fabric) (called : Called Fabric (Option PlugRefusal)) → refusal_in (Err e) ≡ called.answer → new ≡ old → Stays old called → IsKnown (Err e) → new ≡ called.part
unfolding Stays
refused-part fault.NoSuchDisk old new called is kept stays known = kept ∙ sym (stays PlugRefusal.NoSuchDisk (sym is))
refused-part fault.NoSuchPhy old new called is kept stays known = kept ∙ sym (stays PlugRefusal.NoSuchPhy (sym is))
refused-part fault.Occupied old new called is kept stays known = kept ∙ sym (stays PlugRefusal.Occupied (sym is))
refused-part fault.AlreadyPlugged old new called is kept stays known = kept ∙ sym (stays PlugRefusal.AlreadyPlugged (sym is))
refused-part fault.PlugsSpent old new called is kept stays known = kept ∙ sym (stays PlugRefusal.PlugsSpent (sym is))
refused-part fault.NotPlugged old new called is kept stays known = kept ∙ sym (stays PlugRefusal.NotPlugged (sym is))
refused-part fault.OutOfMemory old new called is kept stays known = absurd (known refl)

pub plug_part : (input : Input) (call : RefusedCall) (answer : Result (Unit {0}) PlugFault) (old new : Fabric) (called : Called Fabric (Option PlugRefusal))
    → refusal_in answer ≡ called.answer → OnOk answer (new ≡ called.part) → OnErr answer (new ≡ old) → Stays old called → IsKnown answer
    → new ≡ (plug_called input call called).part
plug_part input call (Ok done) old new called is ok err stays known = ok ∙ sym (by_plug-part input call called.answer called.part)
plug_part input call (Err e) old new called is ok err stays known = refused-part e old new called is err stays known ∙ sym (by_plug-part input call called.answer called.part)

-- the fabric after its input was recorded
pub plug_left : {T E : Type 0} (r : Result T E) (line : Input) (call : RefusedCall) (answer : Result (Unit {0}) PlugFault)
    (before : Recorded Fabric) (plugged : Fabric) (after : Recorded Fabric) (called : Called Fabric (Option PlugRefusal))
    → refusal_in answer ≡ called.answer → OnOk answer (plugged ≡ called.part) → OnErr answer (plugged ≡ before.part) → Stays before.part called
    → OnOk r (IsKnown answer) → after.part ≡ plugged → OnOk r (after.clock ≡ next_stamp before)
    → OnOk r (after.row ≡ stamped_with before.row (next_stamp before) (by_plug line call (refusal_in answer) plugged).entries)
    → OnOk r (after ≡ record {
      part = (plug_called line call called).part;
      row = stamped_with before.row (next_stamp before) (plug_called line call called).entries;
      clock = next_stamp before;
    })
plug_left (Err e) line call answer before plugged after called is ok err stays known part clock row = tt
plug_left (Ok x) line call answer before plugged after called is ok err stays known part clock row =
    let p = part ∙ plug_part line call answer before.part plugged called is ok err stays known in
    let q = row ∙ ap (stamped_with before.row (next_stamp before)) (plug_entries line call (refusal_in answer) called plugged is) in
    λ i. record { part = p i; row = q i; clock = clock i }
