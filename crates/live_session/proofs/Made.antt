-- A fabric within the limits isn't refused.
use Rattle.std.proofs.Common.{◌≡◌, Bool, true, false, if◌then◌else◌, Option, Some, None, map, refl}
use Rattle.std.specs.Prelude.{option_map}
use Rattle.std.specs.List.{list_all}
use Rattle.mpt_rules.specs.World.Settings.{IsSetting, Setting}
use Rattle.sas_fabric.specs.Making.{making_refusal, making_refusal_of, zero_disk}
use Rattle.sas_fabric.specs.declared.faults.FabricFault.{FabricFault}
use Rattle.sas_fabric.specs.declared.faults.FabricFault.TheVariants as cause
use Rattle.mpt_system.specs.Making.{fault_of, has_fit_blocks}
use Rattle.mpt_system.specs.declared.faults.SystemFault.{SystemFault}
use Rattle.mpt_system.specs.declared.faults.SystemFault.TheVariants as fault
use Rattle.mpt_replay.proofs.Heads.{not_refused}

none_there : (b : Bool) (o : Option FabricFault) (f : SystemFault) → (if b then option_map fault_of o else Some f) ≡ None → o ≡ None
none_there b None f e = refl
none_there true (Some c) f e = absurd (cc)
none_there false (Some c) f e = absurd (cc)

-- what is within the limits isn't refused
pub none_refused : (s : Setting) → IsSetting s → making_refusal (map zero_disk s.disks) s.phys ≡ None
none_refused s h = none_there (list_all has_fit_blocks s.disks) (making_refusal (map zero_disk s.disks) s.phys) fault.BadBlocks (not_refused s h)

-- so no fault comes but want of memory
pub only_memory : (f : FabricFault) → making_refusal_of f ≡ None → f ≡ cause.OutOfMemory
only_memory cause.TooManyDisks e = absurd (cc)
only_memory cause.SameAddress e = absurd (cc)
only_memory cause.TooManyExpanders e = absurd (cc)
only_memory cause.BadPhys e = absurd (cc)
only_memory cause.OutOfMemory e = refl
