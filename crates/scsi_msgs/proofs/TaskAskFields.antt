-- The fields of a task management request are its numbers.
use Rattle.std.proofs.Common.{◌≡◌, ℕ, List, get_or, ap}
use Rattle.scsi_msgs.specs.declared.task_ask.TaskAsk.{TaskAsk}
use Rattle.scsi_msgs.specs.TaskAsk.{task_ask_values}

-- the message with these numbers
abbrev task_ask_of : List ℕ → TaskAsk
task_ask_of xs = record {
  dev_handle = get_or xs 0 0;
  chain_offset = get_or xs 1 0;
  function = get_or xs 2 0;
  reserved_04 = get_or xs 3 0;
  task_type = get_or xs 4 0;
  reserved_06 = get_or xs 5 0;
  msg_flags = get_or xs 6 0;
  vp_id = get_or xs 7 0;
  vf_id = get_or xs 8 0;
  reserved_0a = get_or xs 9 0;
  lun = get_or xs 10 0;
  reserved_14 = get_or xs 11 0;
  reserved_1c = get_or xs 12 0;
  reserved_24 = get_or xs 13 0;
  reserved_2c = get_or xs 14 0;
  task_mid = get_or xs 15 0;
  reserved_32 = get_or xs 16 0;
}

-- messages with the same numbers are the same
pub task_ask_values-injective : (m n : TaskAsk) → task_ask_values m ≡ task_ask_values n → m ≡ n
unfolding task_ask_values
task_ask_values-injective m n e = ap task_ask_of e
