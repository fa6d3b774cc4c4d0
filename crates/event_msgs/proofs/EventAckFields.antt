-- The fields of an event acknowledgement are its numbers.
use Rattle.std.proofs.Common.{◌≡◌, ℕ, List, get_or, ap}
use Rattle.event_msgs.specs.declared.event_ack.EventAck.{EventAck}
use Rattle.event_msgs.specs.EventAck.{event_ack_values}

-- the message with these numbers
abbrev event_ack_of : List ℕ → EventAck
event_ack_of xs = record {
  reserved_00 = get_or xs 0 0;
  chain_offset = get_or xs 1 0;
  function = get_or xs 2 0;
  reserved_04 = get_or xs 3 0;
  reserved_06 = get_or xs 4 0;
  msg_flags = get_or xs 5 0;
  vp_id = get_or xs 6 0;
  vf_id = get_or xs 7 0;
  reserved_0a = get_or xs 8 0;
  event = get_or xs 9 0;
  reserved_0e = get_or xs 10 0;
  event_context = get_or xs 11 0;
}

-- messages with the same numbers are the same
pub event_ack_values-injective : (m n : EventAck) → event_ack_values m ≡ event_ack_values n → m ≡ n
unfolding event_ack_values
event_ack_values-injective m n e = ap event_ack_of e
