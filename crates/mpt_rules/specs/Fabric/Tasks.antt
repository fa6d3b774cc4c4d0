-- The tasks that are queued at the fabric: how they come, run and go.
use Rattle.std.specs.Prelude.{ℕ, ◌==◌, Bool, true, false, not, ◌&&◌, List, [], ◌∷◌, ◌++◌, map, length, find, filter, Option, Some, None, is_some}
use Rattle.std.specs.List.{list_any}
use Rattle.scsi_disk.specs.declared.command.Command.{Command}
use Rattle.scsi_disk.specs.Performed as disk
use Rattle.mpt_trace.specs.declared.item.Back.{Back}
use Rattle.mpt_trace.specs.declared.item.Back.TheVariants as back
use Rattle.mpt_rules.specs.declared.task.Task.{Task}
use Rattle.mpt_rules.specs.Fabric.Parts.{Fabric, FabricDisk}
use Rattle.mpt_rules.specs.Fabric.Disks.{disk_of, with_disk, plugged_at}
use Rattle.mpt_rules.specs.Outcome.{Called}

-- the task has this tag
abbrev pub has_tag : ℕ → Task → Bool
has_tag tag task = task.tag == tag

-- the task is for the disk of this address
abbrev pub is_for : ℕ → Task → Bool
is_for address task = task.address == address

-- a task of this tag is queued
abbrev pub is_queued : Fabric → ℕ → Bool
is_queued fabric tag = list_any (has_tag tag) fabric.tasks

-- the queued tasks of the disk of an address
abbrev pub tasks_for : ℕ → List Task → List Task
tasks_for address tasks = filter (is_for address) tasks

-- the queued tasks of the other disks
abbrev pub tasks_for_others : ℕ → List Task → List Task
tasks_for_others address tasks = filter (λ task. not (is_for address task)) tasks

-- the queued tasks without the one of a tag
abbrev pub tasks_without : ℕ → List Task → List Task
tasks_without tag tasks = filter (λ task. not (has_tag tag task)) tasks

-- the fabric, which tells this too
abbrev pub told_also : Fabric → List Back → Fabric
told_also fabric news = record fabric { out = fabric.out ++ news }

-- a task may be queued: the fabric is on, its disk is plugged, and no queued task has its tag
abbrev pub may_queue : Fabric → ℕ → ℕ → Bool
may_queue fabric tag address = fabric.on && is_some (plugged_at fabric address) && not (is_queued fabric tag)

-- a task is queued if it may be, and else is gone
abbrev pub with_task_taken_if : Bool → Fabric → ℕ → ℕ → Command → Fabric
with_task_taken_if true fabric tag address command =
    record fabric { tasks = fabric.tasks ++ record { tag = tag; address = address; command = command } ∷ [] }
with_task_taken_if false fabric tag address command = told_also fabric (back.Gone tag ∷ [])

-- a task comes: it is queued, or is gone
abbrev pub with_task_taken : Fabric → ℕ → ℕ → Command → Fabric
with_task_taken fabric tag address command = with_task_taken_if (may_queue fabric tag address) fabric tag address command

-- the task that is named is terminated if it is queued
abbrev pub after_abort_if : Bool → Fabric → ℕ → ℕ → Fabric
after_abort_if true fabric smid tag =
    told_also (record fabric { tasks = tasks_without tag fabric.tasks }) (back.Terminated tag ∷ back.Aborted smid true ∷ [])
after_abort_if false fabric smid tag = told_also fabric (back.Aborted smid false ∷ [])

-- an abort of the task of a tag comes: the task is terminated where it is queued
abbrev pub aborts_task : Fabric → ℕ → ℕ → Fabric
aborts_task fabric smid tag = after_abort_if (is_queued fabric tag) fabric smid tag

-- the news that a task was terminated
abbrev pub terminated : Task → Back
terminated task = back.Terminated task.tag

-- the news that a task is gone
abbrev pub gone : Task → Back
gone task = back.Gone task.tag

-- a target reset comes: each queued task of the disk is terminated, and their number told
abbrev pub clears : Fabric → ℕ → ℕ → Fabric
clears fabric smid address =
    told_also (record fabric { tasks = tasks_for_others address fabric.tasks })
    (map terminated (tasks_for address fabric.tasks) ++ back.Cleared smid (length (tasks_for address fabric.tasks)) ∷ [])

-- the bytes of a disk, and none where there is no disk
abbrev pub fabric_bytes_of : Option FabricDisk → List ℕ
fabric_bytes_of None = []
fabric_bytes_of (Some disk) = disk.bytes

-- what the disk of an address answers to a command, and the bytes that it has afterwards
abbrev pub performed_at : Fabric → ℕ → Command → disk.Outcome
performed_at fabric address command = disk.performed (fabric_bytes_of (disk_of fabric address)) command

-- the fabric after a task was performed so
abbrev pub after_task : Fabric → Task → disk.Outcome → Fabric
after_task fabric task outcome =
    told_also
    (record fabric {
      disks = with_disk task.address (λ disk. record disk { bytes = outcome.bytes }) fabric.disks;
      tasks = tasks_without task.tag fabric.tasks;
    })
    (back.Result task.tag outcome.result ∷ [])

-- the task that was found is performed
abbrev pub runs_task : Fabric → Option Task → Called Fabric (Option ℕ)
runs_task fabric None = record { part = fabric; told = []; answer = None }
runs_task fabric (Some task) =
    record {
      part = after_task fabric task (performed_at fabric task.address task.command);
      told = [];
      answer = Some task.address;
    }

-- the task of a tag leaves its queue and is performed; the answer is the address of its disk, where it is queued
abbrev pub runs : Fabric → ℕ → Called Fabric (Option ℕ)
runs fabric tag = runs_task fabric (find (has_tag tag) fabric.tasks)

-- the tag of the first task
abbrev pub oldest_of : List Task → Option ℕ
oldest_of [] = None
oldest_of (task ∷ tasks) = Some task.tag

-- the tag of the task that was queued first
abbrev pub oldest : Fabric → Option ℕ
oldest fabric = oldest_of fabric.tasks
