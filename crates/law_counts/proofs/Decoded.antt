-- What the reply to task management counts, whatever its other numbers are.
use Rattle.std.proofs.Common.{◌≡◌, ℕ, ◌+◌, ◌*◌, ◌/◌, ◌%◌, ◌^◌, ◌<◌, refl, arith}
use Rattle.mpi_layout.specs.Rows.{field}
use Rattle.scsi_msgs.specs.TaskReply.{task_reply_layout, task_reply_values}
use Rattle.mpt_messages.specs.IocFrames.{reply_frame}
use Rattle.mpt_messages.specs.declared.ioc_reply.IocReply.TheVariants as reply
use Rattle.mpt_wire.specs.Messages.Fields.{termination_count_in}

four : (count : ℕ) → count < 2 ^ 32 → count % 256 + (count / 256) % 256 * 256 + (count / 65536) % 256 * 65536 + (count / 16777216) % 256 * 16777216 ≡ count
four count l = omega (arith, l)

pub count_in : (handle task_type status code count : ℕ) → count < 2 ^ 32 → termination_count_in (reply_frame (reply.Task handle task_type status code count)) ≡ count
unfolding task_reply_layout task_reply_values field
count_in handle task_type status code count l = let z = four count l in omega (arith, z)

pub plain_count : (function status : ℕ) → termination_count_in (reply_frame (reply.Plain function status)) ≡ 0
unfolding field
plain_count function status = refl
