-- The host's requests: of which class each is, the post of each, and who gets an identifier.
use Rattle.std.specs.Prelude.{ℕ, ◌-◌, ◌%◌, ◌==◌, not, ◌&&◌, Bool, List, [], ◌∷◌, ◌++◌, length, replicate, Option, Some, None}
use Rattle.scsi_disk.specs.declared.command.Command.{Command}
use Rattle.scsi_disk.specs.Command.{is_write}
use Rattle.smid_pool.specs.declared.class.Class.TheVariants.{High, Internal}
use Rattle.smid_pool.specs.Pool.{Free, Open, least_free, with_slot}
use Rattle.removal.specs.Handles.{phase_at, with_phase}
use Rattle.removal.specs.Phases.{after_grant}
use Rattle.mpi_rings.specs.declared.request_descriptor.PostKind.TheVariants as post
use Rattle.mpt_messages.specs.declared.host_ask.HostAsk.{HostAsk}
use Rattle.mpt_messages.specs.declared.host_ask.HostAsk.TheVariants as ask
use Rattle.mpt_messages.specs.HostFrames.{host_message}
use Rattle.mpt_messages.specs.FrameBytes.{message_frame}
use Rattle.mpt_trace.specs.declared.item.Down.TheVariants as down
use Rattle.mpt_wire.specs.Messages.Fields.{post_descriptor, target_reset}
use Rattle.mpt_rules.specs.declared.request.Request.{Request}
use Rattle.mpt_rules.specs.declared.request.Request.TheVariants as request
use Rattle.mpt_rules.specs.Host.Parts.{Host, host_queue_count}

-- the frame of what the host asks
abbrev pub frame_asked : HostAsk → List ℕ
frame_asked ask = message_frame (host_message ask)

-- a post goes into the outbox, and its identifier is open for the request
abbrev pub with_post : Host → ℕ → Request → ℕ → HostAsk → List ℕ → Host
with_post host smid request descriptor ask payload =
    record host {
      pool = with_slot smid (Open request) host.pool;
      out = host.out ++ down.Post descriptor (frame_asked ask) payload ∷ [];
    }

-- ---- commands

-- the 16 bytes of a CDB: zeros stand behind it
abbrev pub padded_cdb : List ℕ → List ℕ
padded_cdb cdb = cdb ++ replicate (16 - length cdb) 0

-- whether data go to the disk
abbrev pub is_data_to_disk : Command → Bool
is_data_to_disk command = is_write command.cdb && not (command.len == 0)

-- the SCSI IO of a command
abbrev pub command_asked : ℕ → ℕ → Command → HostAsk
command_asked smid handle command =
    ask.ScsiIo smid handle command.lun (padded_cdb command.cdb) (length command.cdb) command.len (is_data_to_disk command)

-- the reply queue of a SCSI IO: the identifiers go around the queues
abbrev pub host_queue_of : Host → ℕ → ℕ
host_queue_of host smid = (smid - 1) % host_queue_count host

-- the post of a command: it alone has a payload
abbrev pub posts_command : Host → ℕ → ℕ → ℕ → Command → Host
posts_command host smid n handle command =
    with_post host smid (request.Command n) (post_descriptor post.ScsiIo (host_queue_of host smid) smid handle) (command_asked smid handle command) command.payload

-- ---- task management, by the high priority queue

-- task management of a type for a handle, with the identifier of the task that it aborts
abbrev pub posts_task : Host → ℕ → Request → ℕ → ℕ → ℕ → Host
posts_task host smid request handle task_type task_mid =
    with_post host smid request (post_descriptor post.HighPriority 0 smid 0) (ask.Task handle task_type task_mid) []

-- the phase of a handle whose next post has got an identifier
abbrev pub grants : Host → ℕ → ℕ → Host
grants host handle smid = record host { phases = with_phase host.phases handle (after_grant (phase_at host.phases handle) smid) }

-- the target reset of a removal
abbrev pub posts_leave : Host → ℕ → ℕ → Host
posts_leave host smid handle = posts_task (grants host handle smid) smid (request.Leave handle) handle target_reset 0

-- with the identifier that there is
abbrev pub posts_leave_or_waits : Host → ℕ → Option ℕ → Host
posts_leave_or_waits host handle None = record host { wait_high = host.wait_high ++ handle ∷ [] }
posts_leave_or_waits host handle (Some smid) = posts_leave host smid handle

-- it is posted under the least free identifier, and waits where there is none
abbrev pub asks_leave : Host → ℕ → Host
asks_leave host handle = posts_leave_or_waits host handle (least_free High host.pool)

-- ---- requests of the internal class

-- a default post has nothing but its frame
abbrev pub posts_default : Host → ℕ → Request → HostAsk → Host
posts_default host smid request ask = with_post host smid request (post_descriptor post.Default 0 smid 0) ask []

-- the requests of the other classes never come here
abbrev pub posts_internal : Host → ℕ → Request → Host
posts_internal host smid (request.Page handle) = posts_default (grants host handle smid) smid (request.Page handle) (ask.PageRead smid handle)
posts_internal host smid (request.Remove handle) = posts_default (grants host handle smid) smid (request.Remove handle) (ask.Remove handle)
posts_internal host smid (request.Ack event context) = posts_default host smid (request.Ack event context) (ask.Ack event context)
posts_internal host smid request.Notification = posts_default host smid request.Notification ask.Notification
posts_internal host smid request.PortEnable = posts_default host smid request.PortEnable ask.PortEnable
posts_internal host smid (request.Command n) = host
posts_internal host smid (request.Abort n task) = host
posts_internal host smid (request.TargetReset address) = host
posts_internal host smid (request.Leave handle) = host

-- with the identifier that there is
abbrev pub posts_internal_or_waits : Host → Request → Option ℕ → Host
posts_internal_or_waits host request None = record host { wait_internal = host.wait_internal ++ request ∷ [] }
posts_internal_or_waits host request (Some smid) = posts_internal host smid request

-- it is posted under the least free identifier, and waits where there is none
abbrev pub asks_internal : Host → Request → Host
asks_internal host request = posts_internal_or_waits host request (least_free Internal host.pool)

-- ---- a freed identifier

-- the identifier is free
abbrev pub frees : Host → ℕ → Host
frees host smid = record host { pool = with_slot smid Free host.pool }

-- the first that waits gets it at once
abbrev pub gives_high : Host → ℕ → List ℕ → Host
gives_high host smid [] = host
gives_high host smid (handle ∷ rest) = posts_leave (record host { wait_high = rest }) smid handle

-- likewise for requests of the internal class
abbrev pub gives_internal : Host → ℕ → List Request → Host
gives_internal host smid [] = host
gives_internal host smid (request ∷ rest) = posts_internal (record host { wait_internal = rest }) smid request

-- an identifier of task management is free, and is given on
abbrev pub frees_high : Host → ℕ → Host
frees_high host smid = gives_high (frees host smid) smid host.wait_high

-- an identifier of the internal class is free, and is given on
abbrev pub frees_internal : Host → ℕ → Host
frees_internal host smid = gives_internal (frees host smid) smid host.wait_internal
