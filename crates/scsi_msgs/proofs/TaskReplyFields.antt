-- The fields of a task management reply are its numbers.
use Rattle.std.proofs.Common.{◌≡◌, ℕ, List, get_or, ap}
use Rattle.scsi_msgs.specs.declared.task_reply.TaskReply.{TaskReply}
use Rattle.scsi_msgs.specs.TaskReply.{task_reply_values}

-- the message with these numbers
abbrev task_reply_of : List ℕ → TaskReply
task_reply_of xs = record {
  dev_handle = get_or xs 0 0;
  msg_length = get_or xs 1 0;
  function = get_or xs 2 0;
  response_code = get_or xs 3 0;
  task_type = get_or xs 4 0;
  reserved_06 = get_or xs 5 0;
  msg_flags = get_or xs 6 0;
  vp_id = get_or xs 7 0;
  vf_id = get_or xs 8 0;
  reserved_0a = get_or xs 9 0;
  reserved_0c = get_or xs 10 0;
  ioc_status = get_or xs 11 0;
  ioc_log_info = get_or xs 12 0;
  termination_count = get_or xs 13 0;
  response_info = get_or xs 14 0;
}

-- messages with the same numbers are the same
pub task_reply_values-injective : (m n : TaskReply) → task_reply_values m ≡ task_reply_values n → m ≡ n
unfolding task_reply_values
task_reply_values-injective m n e = ap task_reply_of e
