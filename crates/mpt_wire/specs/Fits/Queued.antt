-- A model of what is queued, apart from the host's, the controller's and the fabric's own: what the host has still to
-- put, the posts at the controller, and the tasks, notices and items at the fabric, as the schedule's lines and the
-- entries so far tell it. It is a second one so that whether a trace fits a schedule can be judged of the two texts
-- alone, whatever made the trace, and a mistake in the rules of a part isn't one here too. It has only what lines and
-- entries decide: how much of its start the host has still to put is in no entry, so `starts` ends with the first put.
use Rattle.std.specs.Prelude.{ℕ, ◌+◌, ◌-◌, ◌==◌, ◌&&◌, not, Bool, true, false, if◌then◌else◌, List, [], ◌∷◌, ◌++◌, drop, filter, fold, length, Option, Some}
use Rattle.std.specs.List.{list_any}
use Rattle.mpi_rings.specs.declared.request_descriptor.PostKind.{PostKind}
use Rattle.mpi_rings.specs.declared.request_descriptor.PostKind.TheVariants as post
use Rattle.mpt_trace.specs.declared.input.Input.{Input}
use Rattle.mpt_trace.specs.declared.input.Input.TheVariants as input
use Rattle.mpt_trace.specs.declared.lane.LaneName.TheVariants as lane
use Rattle.mpt_trace.specs.declared.item.Down.TheVariants as down
use Rattle.mpt_trace.specs.declared.item.Out.{Out}
use Rattle.mpt_trace.specs.declared.item.Out.TheVariants as out
use Rattle.mpt_trace.specs.declared.item.Item.TheVariants as item
use Rattle.mpt_trace.specs.declared.entry.Entry.{Entry}
use Rattle.mpt_trace.specs.declared.entry.Entry.TheVariants as entry
use Rattle.mpt_wire.specs.Messages.Fields.{dev_handle_in, kind_in, smid_in, task_mid_in}
use Rattle.mpt_wire.specs.Messages.Naming.{is_abort, is_high_priority}

-- a post that the controller has taken and not processed
pub record QueuedPost : Type 0 where
  pub descriptor : ℕ
  pub frame : List ℕ

-- a task that waits at a disk
pub record QueuedTask : Type 0 where
  pub tag : ℕ
  pub address : ℕ

pub record Queued : Type 0 where
  -- the host was started and has put nothing yet, and so many accepted commands aren't posted
  pub starts : Bool
  pub unposted : ℕ
  -- the controller's two queues, the next first
  pub high : List QueuedPost
  pub normal : List QueuedPost
  -- the fabric is on, these disks are plugged, and these tasks are queued, the oldest first
  pub on : Bool
  pub plugged : List ℕ
  pub tasks : List QueuedTask
  -- how many plugs and unplugs the fabric hasn't announced, and how many items it has to put
  pub notices : ℕ
  pub to_put : ℕ

abbrev pub nothing_queued : Queued
nothing_queued = record { starts = false; unposted = 0; high = []; normal = []; on = false; plugged = []; tasks = []; notices = 0; to_put = 0 }

-- ---- the controller

abbrev pub is_scsi_io : Option PostKind → Bool
is_scsi_io (Some post.ScsiIo) = true
is_scsi_io _ = false

-- the post is of the command that the abort names
abbrev pub is_named : List ℕ → QueuedPost → Bool
is_named abort p =
    is_scsi_io (kind_in p.descriptor) && smid_in p.descriptor == task_mid_in abort && dev_handle_in p.frame == dev_handle_in abort

-- an abort takes the command that it names out of the normal queue
abbrev pub without_named : QueuedPost → List QueuedPost → List QueuedPost
without_named p normal = if is_abort p.descriptor p.frame then filter (λ q. not (is_named p.frame q)) normal else normal

-- the next high priority post is processed
abbrev pub high_processed : Queued → List QueuedPost → Queued
high_processed g [] = g
high_processed g (p ∷ high) = record g { high = high; normal = without_named p g.normal }

-- the next other post is processed
abbrev pub normal_processed : Queued → Queued
normal_processed g = record g { normal = drop 1 g.normal }

abbrev pub post_taken : QueuedPost → Queued → Queued
post_taken p g = if is_high_priority (kind_in p.descriptor) then record g { high = g.high ++ p ∷ [] } else record g { normal = g.normal ++ p ∷ [] }

-- ---- the host

-- a post of the host is put
abbrev pub after_post : ℕ → Queued → Queued
after_post descriptor g = if is_scsi_io (kind_in descriptor) then record g { unposted = g.unposted - 1 } else g

-- ---- the fabric

abbrev pub has_queued_tag : ℕ → QueuedTask → Bool
has_queued_tag tag task = task.tag == tag

abbrev pub has_queued_address : ℕ → QueuedTask → Bool
has_queued_address address task = task.address == address

abbrev pub is_plugged_in : ℕ → Queued → Bool
is_plugged_in address g = list_any (λ a. a == address) g.plugged

-- the tasks that don't pass the test stay, and each other one makes an item, beside so many more
abbrev pub tasks_taken : (QueuedTask → Bool) → ℕ → Queued → Queued
tasks_taken test more g =
    record g { tasks = filter (λ task. not (test task)) g.tasks; to_put = g.to_put + length (filter test g.tasks) + more }

-- a task is queued where the fabric is on, the disk is plugged and no task has its tag; else it is gone
abbrev pub task_arrives : QueuedTask → Queued → Queued
task_arrives task g =
    if g.on && is_plugged_in task.address g && not (list_any (has_queued_tag task.tag) g.tasks)
    then record g { tasks = g.tasks ++ task ∷ [] }
    else record g { to_put = g.to_put + 1 }

-- the fabric takes an item
abbrev pub out_taken : Out → Queued → Queued
out_taken (out.Task tag address command) g = task_arrives (record { tag = tag; address = address }) g
out_taken (out.Abort smid task) g = tasks_taken (has_queued_tag task) 1 g
out_taken (out.TargetReset smid address) g = tasks_taken (has_queued_address address) 1 g
out_taken out.Discover g = record g { on = true; to_put = g.to_put + length g.plugged + 1 }
out_taken (out.Link generation) g = record g { on = false; tasks = []; notices = 0; to_put = 1 }
out_taken out.Stop g = g

-- a disk is plugged, or unplugged; while the fabric is on there is a notice of it, and an unplugged disk's tasks are gone
abbrev pub noticed : Queued → Queued
noticed g = if g.on then record g { notices = g.notices + 1 } else g

-- the start is a read of the Doorbell, and a reset takes the posts out of what the host has to put
abbrev pub input_granted : Input → Queued → Queued
input_granted input.Start g = record g { starts = true }
input_granted input.Reset g = record g { unposted = 0 }
input_granted input.UnitReset g = record g { unposted = 0 }
input_granted (input.Plug address expander phy) g = noticed (record g { plugged = g.plugged ++ address ∷ [] })
input_granted (input.Unplug address) g = noticed (tasks_taken (has_queued_address address) 0 (record g { plugged = filter (λ a. not (a == address)) g.plugged }))
input_granted _ g = g

-- the fabric announces its first notice
abbrev pub announced : Queued → Queued
announced g = record g { notices = g.notices - 1; to_put = g.to_put + 1 }

-- ---- what an entry changes

abbrev pub queued_by : Queued → Entry → Queued
queued_by g (entry.Accept n address smid) = record g { unposted = g.unposted + 1 }
queued_by g (entry.Put lane.Down (item.Down (down.Post descriptor frame payload))) = after_post descriptor g
queued_by g (entry.Put lane.Down put) = record g { starts = false }
queued_by g (entry.Take lane.Down (item.Down (down.Post descriptor frame payload))) = post_taken (record { descriptor = descriptor; frame = frame }) g
queued_by g (entry.Take lane.Out (item.Out taken)) = out_taken taken g
queued_by g (entry.Run address tag) = tasks_taken (has_queued_tag tag) 0 g
queued_by g (entry.Put lane.Back put) = record g { to_put = g.to_put - 1 }
queued_by g entry.UnbindAll = record g { high = []; normal = [] }
queued_by g _ = g

abbrev pub queued_after : Queued → List Entry → Queued
queued_after g t = fold queued_by g t
