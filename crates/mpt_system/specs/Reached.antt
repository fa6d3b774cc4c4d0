-- What leads to a whole.
use Rattle.std.specs.Prelude.{◌≡◌, List}
use Rattle.mpt_trace.specs.declared.disk_spec.DiskSpec.{DiskSpec}
use Rattle.mpt_trace.specs.declared.entry.Entry.{Entry}
use Rattle.mpt_rules.specs.Law.{IsOfCases}
use Rattle.mpt_rules.specs.World.Settings.{IsSetting, Setting}
use Rattle.mpt_rules.specs.World.State.{World}

-- from the first world of a setting within the limits, with these disks, some list of cases whose numbers an input can
-- have leads to this world, and told these entries
pub record IsReached (disks : List DiskSpec) (world : World) (told : List Entry) : Type 0 where
  pub setting : Setting
  pub declared : setting.disks ≡ disks
  pub within : IsSetting setting
  pub of_cases : IsOfCases setting (record { part = world; entries = told })
