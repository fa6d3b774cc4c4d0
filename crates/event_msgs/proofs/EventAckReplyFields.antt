-- The fields of a reply to an event acknowledgement are its numbers.
use Rattle.std.proofs.Common.{◌≡◌, ℕ, List, get_or, ap}
use Rattle.event_msgs.specs.declared.event_ack_reply.EventAckReply.{EventAckReply}
use Rattle.event_msgs.specs.EventAckReply.{event_ack_reply_values}

-- the message with these numbers
abbrev event_ack_reply_of : List ℕ → EventAckReply
event_ack_reply_of xs = record {
  reserved_00 = get_or xs 0 0;
  msg_length = get_or xs 1 0;
  function = get_or xs 2 0;
  reserved_04 = get_or xs 3 0;
  reserved_06 = get_or xs 4 0;
  msg_flags = get_or xs 5 0;
  vp_id = get_or xs 6 0;
  vf_id = get_or xs 7 0;
  reserved_0a = get_or xs 8 0;
  reserved_0c = get_or xs 9 0;
  ioc_status = get_or xs 10 0;
  ioc_log_info = get_or xs 11 0;
}

-- messages with the same numbers are the same
pub event_ack_reply_values-injective : (m n : EventAckReply) → event_ack_reply_values m ≡ event_ack_reply_values n → m ≡ n
unfolding event_ack_reply_values
event_ack_reply_values-injective m n e = ap event_ack_reply_of e
