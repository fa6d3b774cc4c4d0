-- The fabric: what each of its calls does.
use Rattle.std.specs.Prelude.{ℕ, ◌+◌, nat_le, Bool, true, false, List, [], ◌∷◌, ◌++◌, map, drop, filter, Option, Some, None, is_some, if◌then◌else◌}
use Rattle.mpt_trace.specs.declared.item.Out.{Out}
use Rattle.mpt_trace.specs.declared.item.Out.TheVariants as out
use Rattle.mpt_trace.specs.declared.item.Back.{Back}
use Rattle.mpt_trace.specs.declared.item.Back.TheVariants as back
use Rattle.mpt_rules.specs.declared.task.Task.{Task}
use Rattle.mpt_rules.specs.Fabric.Parts.{Fabric, FabricDisk, Place}
use Rattle.mpt_rules.specs.Fabric.Disks.{disk_of, with_disk, has_phy, is_occupied, plugged_news, unplugged_news, all_plugged}
use Rattle.mpt_rules.specs.Fabric.Tasks.{told_also, with_task_taken, aborts_task, clears, gone, tasks_for, tasks_for_others}
use Rattle.mpt_rules.specs.Outcome.{Called}
use Rattle.mpt_wire.specs.Machine.Causes.{most_plugs}
pub use Rattle.mpt_rules.specs.Fabric.Tasks.{runs, oldest}

-- why a disk isn't plugged or unplugged
pub data PlugRefusal : Type 0 where
  NoSuchDisk : PlugRefusal
  NoSuchPhy : PlugRefusal
  Occupied : PlugRefusal
  AlreadyPlugged : PlugRefusal
  PlugsSpent : PlugRefusal
  NotPlugged : PlugRefusal

-- ---- plugs and unplugs

-- plugs and unplugs make notices while the fabric is on
abbrev pub with_notice : Bool → Back → Fabric → Fabric
with_notice true notice fabric = record fabric { notices = fabric.notices ++ notice ∷ [] }
with_notice false notice fabric = fabric

-- the disk at this place, plugged once more
abbrev pub plugged_once_more : Place → FabricDisk → FabricDisk
plugged_once_more place disk = record disk { at = Some place; plugs = disk.plugs + 1 }

-- the fabric after a disk was plugged at this place
abbrev pub after_plug : Fabric → FabricDisk → Place → Fabric
after_plug fabric disk place =
    with_notice fabric.on (plugged_news (plugged_once_more place disk) place)
    (record fabric { disks = with_disk disk.address (plugged_once_more place) fabric.disks })

-- the first cause why a disk isn't plugged at this phy
abbrev pub plug_refusal : Fabric → FabricDisk → ℕ → ℕ → Option PlugRefusal
plug_refusal fabric disk expander phy =
    if has_phy fabric expander phy then
    (if is_occupied fabric expander phy then Some Occupied
    else (if is_some disk.at then Some AlreadyPlugged
    else (if nat_le most_plugs disk.plugs then Some PlugsSpent else None)))
    else Some NoSuchPhy

-- nothing changes, for this cause
abbrev pub refuses_plug : Fabric → PlugRefusal → Called Fabric (Option PlugRefusal)
refuses_plug fabric cause = record { part = fabric; told = []; answer = Some cause }

-- the disk is plugged, unless there is a cause not to
abbrev pub plugs_unless : Option PlugRefusal → Fabric → FabricDisk → Place → Called Fabric (Option PlugRefusal)
plugs_unless (Some cause) fabric disk place = refuses_plug fabric cause
plugs_unless None fabric disk place = record { part = after_plug fabric disk place; told = []; answer = None }

-- the disk that was found is plugged
abbrev pub plugs_disk : Option FabricDisk → Fabric → ℕ → ℕ → Called Fabric (Option PlugRefusal)
plugs_disk None fabric expander phy = refuses_plug fabric NoSuchDisk
plugs_disk (Some disk) fabric expander phy =
    plugs_unless (plug_refusal fabric disk expander phy) fabric disk (record { expander = expander; phy = phy })

-- the disk of an address is plugged at a phy of an expander
abbrev pub fabric_plugs : Fabric → ℕ → ℕ → ℕ → Called Fabric (Option PlugRefusal)
fabric_plugs fabric address expander phy = plugs_disk (disk_of fabric address) fabric expander phy

-- the fabric after a disk was unplugged from this place: its queued tasks are gone
abbrev pub after_unplug : Fabric → FabricDisk → Place → Fabric
after_unplug fabric disk place =
    with_notice fabric.on (unplugged_news disk place)
    (told_also
    (record fabric {
      disks = with_disk disk.address (λ old. record old { at = None }) fabric.disks;
      tasks = tasks_for_others disk.address fabric.tasks;
    })
    (map gone (tasks_for disk.address fabric.tasks)))

-- the disk is unplugged from where it stands
abbrev pub fabric_unplugs_from : Option Place → Fabric → FabricDisk → Called Fabric (Option PlugRefusal)
fabric_unplugs_from None fabric disk = refuses_plug fabric NotPlugged
fabric_unplugs_from (Some place) fabric disk = record { part = after_unplug fabric disk place; told = []; answer = None }

-- the disk that was found is unplugged
abbrev pub unplugs_disk : Option FabricDisk → Fabric → Called Fabric (Option PlugRefusal)
unplugs_disk None fabric = refuses_plug fabric NoSuchDisk
unplugs_disk (Some disk) fabric = fabric_unplugs_from disk.at fabric disk

-- the disk of an address is unplugged
abbrev pub fabric_unplugs : Fabric → ℕ → Called Fabric (Option PlugRefusal)
fabric_unplugs fabric address = unplugs_disk (disk_of fabric address) fabric

-- ---- what the controller asks

-- the fabric is on and names each plugged disk
abbrev pub after_discover : Fabric → Fabric
after_discover fabric = told_also (record fabric { on = true }) (all_plugged fabric ++ back.Discovered ∷ [])

-- the item says that the fabric has nothing more to tell
abbrev pub is_calm : Back → Bool
is_calm back.Calm = true
is_calm _ = false

-- the controller was reset: all tasks, notices and items to be put are dropped, and the fabric is off
abbrev pub after_link : Fabric → ℕ → Fabric
after_link fabric generation =
    record fabric { on = false; tasks = []; notices = []; out = filter is_calm fabric.out ++ back.Linked generation ∷ [] }

-- an item of the lane out is taken
abbrev pub takes_out : Fabric → Out → Fabric
takes_out fabric (out.Task tag address command) = with_task_taken fabric tag address command
takes_out fabric (out.Abort smid task) = aborts_task fabric smid task
takes_out fabric (out.TargetReset smid address) = clears fabric smid address
takes_out fabric out.Discover = after_discover fabric
takes_out fabric (out.Link generation) = after_link fabric generation
takes_out fabric out.Stop = fabric

-- ---- what the fabric does by itself

-- the first of these notices is told
abbrev pub says_first : List Back → Fabric → Option Fabric
says_first [] fabric = None
says_first (notice ∷ rest) fabric = Some (told_also (record fabric { notices = rest }) (notice ∷ []))

-- the first notice is told, where there is one
abbrev pub announces : Fabric → Option Fabric
announces fabric = says_first fabric.notices fabric

-- in a session: the fabric tells that it has nothing more to tell
abbrev pub calms : Fabric → Fabric
calms fabric = told_also fabric (back.Calm ∷ [])

-- the next item was put on the lane back
abbrev pub fabric_sent : Fabric → Fabric
fabric_sent fabric = record fabric { out = drop 1 fabric.out }

-- these lists are all empty
abbrev pub has_nothing : List Task → List Back → List Back → Bool
has_nothing [] [] [] = true
has_nothing _ _ _ = false

-- no task is queued, and nothing is to be told
abbrev pub fabric_quiet : Fabric → Bool
fabric_quiet fabric = has_nothing fabric.tasks fabric.notices fabric.out
