-- The fields of a SAS IO unit control reply are its numbers.
use Rattle.std.proofs.Common.{◌≡◌, ℕ, List, get_or, ap}
use Rattle.ioc_msgs.specs.declared.unit_control_reply.UnitControlReply.{UnitControlReply}
use Rattle.ioc_msgs.specs.UnitControlReply.{unit_control_reply_values}

-- the message with these numbers
abbrev unit_control_reply_of : List ℕ → UnitControlReply
unit_control_reply_of xs = record {
  operation = get_or xs 0 0;
  reserved_01 = get_or xs 1 0;
  msg_length = get_or xs 2 0;
  function = get_or xs 3 0;
  dev_handle = get_or xs 4 0;
  ioc_parameter = get_or xs 5 0;
  msg_flags = get_or xs 6 0;
  vp_id = get_or xs 7 0;
  vf_id = get_or xs 8 0;
  reserved_0a = get_or xs 9 0;
  reserved_0c = get_or xs 10 0;
  ioc_status = get_or xs 11 0;
  ioc_log_info = get_or xs 12 0;
}

-- messages with the same numbers are the same
pub unit_control_reply_values-injective : (m n : UnitControlReply) → unit_control_reply_values m ≡ unit_control_reply_values n → m ≡ n
unfolding unit_control_reply_values
unit_control_reply_values-injective m n e = ap unit_control_reply_of e
