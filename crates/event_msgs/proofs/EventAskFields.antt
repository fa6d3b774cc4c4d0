-- The fields of an event notification request are its numbers.
use Rattle.std.proofs.Common.{◌≡◌, ℕ, List, get_or, ap}
use Rattle.event_msgs.specs.declared.event_ask.EventAsk.{EventAsk}
use Rattle.event_msgs.specs.EventAsk.{event_ask_values}

-- the message with these numbers
abbrev event_ask_of : List ℕ → EventAsk
event_ask_of xs = record {
  reserved_00 = get_or xs 0 0;
  chain_offset = get_or xs 1 0;
  function = get_or xs 2 0;
  reserved_04 = get_or xs 3 0;
  reserved_06 = get_or xs 4 0;
  msg_flags = get_or xs 5 0;
  vp_id = get_or xs 6 0;
  vf_id = get_or xs 7 0;
  reserved_0a = get_or xs 8 0;
  reserved_0c = get_or xs 9 0;
  event_masks0 = get_or xs 10 0;
  event_masks1 = get_or xs 11 0;
  event_masks2 = get_or xs 12 0;
  event_masks3 = get_or xs 13 0;
  sas_broadcast_primitive_masks = get_or xs 14 0;
  sas_notify_primitive_masks = get_or xs 15 0;
  reserved_28 = get_or xs 16 0;
}

-- messages with the same numbers are the same
pub event_ask_values-injective : (m n : EventAsk) → event_ask_values m ≡ event_ask_values n → m ≡ n
unfolding event_ask_values
event_ask_values-injective m n e = ap event_ask_of e
