-- What the law speaks of: the traces and the worlds of every list of cases, from a first world of any size within the limits.
use Rattle.std.specs.Prelude.{◌≢◌, ℕ, ◌≤◌, ◌<◌, ◌^◌, ◌==◌, IsTrue, List, All, AllPairs, length, slice_index}
use Rattle.std.specs.List.{list_any}
use Rattle.mpt_trace.specs.declared.disk_spec.DiskSpec.{DiskSpec}
use Rattle.mpt_trace.specs.declared.entry.Entry.{Entry}
use Rattle.mpt_trace.specs.declared.input.Input.{Input}
use Rattle.mpt_trace.specs.declared.input.Input.TheVariants as input
use Rattle.mpt_trace.specs.ReadingSchedule.{IsInput}
use Rattle.mpt_rules.specs.World.State.{World, fresh}
use Rattle.mpt_rules.specs.World.Cases.{Case, Told, Chosen, HostLooks, HostStops, FabricCalms, run, trace}

-- what a world is made with: its disks, how many phys each expander has, and the number of reply queues
pub record Setting : Type 0 where
  pub disks : List DiskSpec
  pub phys : List ℕ
  pub queues : ℕ

-- a number is from one to another
abbrev pub IsFromTo : ℕ → ℕ → ℕ → Type 0
IsFromTo least most n = (least ≤ n) × (n ≤ most)

-- a setting within the limits. There are no more disks than handles, so that no disk waits for a handle for ever
pub record IsSetting (s : Setting) : Type 0 where
  pub few_disks : length s.disks ≤ 64
  pub addresses : All (λ (d : DiskSpec). d.address < 256 ^ 8) s.disks
  pub apart : AllPairs (λ (d e : DiskSpec). d.address ≢ e.address) s.disks
  pub blocks : All (λ (d : DiskSpec). IsFromTo 1 1024 d.blocks) s.disks
  pub few_expanders : length s.phys ≤ 16
  pub phys : All (IsFromTo 1 22) s.phys
  pub few_queues : IsFromTo 1 8 s.queues

-- a case whose numbers are those that an input can have
abbrev pub IsCase : Case → Type 0
IsCase (Told input) = IsInput input
IsCase (Chosen choice) = Unit {0}
IsCase HostLooks = Unit {0}
IsCase HostStops = Unit {0}
IsCase FabricCalms = Unit {0}

-- the setting has a disk of the address
abbrev pub HasDisk : Setting → ℕ → Type 0
HasDisk s address = IsTrue (list_any (λ (d : DiskSpec). d.address == address) s.disks)

-- an input names only a disk and a phy that the setting has, where it is to plug or unplug one
abbrev pub NamesWhatIsThere : Setting → Input → Type 0
NamesWhatIsThere s (input.Plug address expander phy) = HasDisk s address × (phy < slice_index s.phys expander)
NamesWhatIsThere s (input.Unplug address) = HasDisk s address
NamesWhatIsThere s _ = Unit {0}

-- the first world of a setting
abbrev pub first_world : Setting → World
first_world s = fresh s.disks s.phys s.queues

-- the law: it holds for every list of cases
abbrev pub ForAllCases : (Setting → List Case → Type 0) → Type 0
ForAllCases Holds = (s : Setting) (cases : List Case) → IsSetting s → All IsCase cases → Holds s cases

-- it holds of the trace of every list of cases
abbrev pub OfEveryTrace : (Setting → List Entry → Type 0) → Type 0
OfEveryTrace Holds = ForAllCases (λ s cases. Holds s (trace (first_world s) cases))

-- it holds of the world that every list of cases leads to
abbrev pub OfEveryWorld : (World → Type 0) → Type 0
OfEveryWorld Holds = ForAllCases (λ s cases. Holds (run (first_world s) cases))
