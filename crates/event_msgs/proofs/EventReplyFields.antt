-- The fields of an event are its numbers.
use Rattle.std.proofs.Common.{◌≡◌, ℕ, List, get_or, ap, ◌∙◌}
use Rattle.event_msgs.specs.declared.event_data.EventData.{EventData}
use Rattle.event_msgs.specs.declared.event_reply.EventReply.{EventReply}
use Rattle.event_msgs.specs.EventReply.{event_reply_values}

-- the event with these numbers and data
abbrev event_reply_of : List ℕ → EventData → EventReply
event_reply_of xs event_data = record {
  event_data = event_data;
  event_data_length = get_or xs 0 0;
  msg_length = get_or xs 1 0;
  function = get_or xs 2 0;
  reserved_04 = get_or xs 3 0;
  ack_required = get_or xs 4 0;
  msg_flags = get_or xs 5 0;
  vp_id = get_or xs 6 0;
  vf_id = get_or xs 7 0;
  reserved_0a = get_or xs 8 0;
  reserved_0c = get_or xs 9 0;
  ioc_status = get_or xs 10 0;
  ioc_log_info = get_or xs 11 0;
  event = get_or xs 12 0;
  reserved_16 = get_or xs 13 0;
  event_context = get_or xs 14 0;
}

-- events with the same numbers and data are the same
pub event_reply_values-injective : (m n : EventReply) → event_reply_values m ≡ event_reply_values n → m.event_data ≡ n.event_data → m ≡ n
unfolding event_reply_values
event_reply_values-injective m n e same = ap (λ xs. event_reply_of xs m.event_data) e ∙ ap (λ d. event_reply_of (event_reply_values n) d) same
