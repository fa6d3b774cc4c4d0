-- The fields of a Port Facts reply are its numbers.
use Rattle.std.proofs.Common.{◌≡◌, ℕ, List, get_or, ap}
use Rattle.ioc_msgs.specs.declared.port_facts_reply.PortFactsReply.{PortFactsReply}
use Rattle.ioc_msgs.specs.PortFactsReply.{port_facts_reply_values}

-- the message with these numbers
abbrev port_facts_reply_of : List ℕ → PortFactsReply
port_facts_reply_of xs = record {
  reserved_00 = get_or xs 0 0;
  msg_length = get_or xs 1 0;
  function = get_or xs 2 0;
  reserved_04 = get_or xs 3 0;
  port_number = get_or xs 4 0;
  msg_flags = get_or xs 5 0;
  vp_id = get_or xs 6 0;
  vf_id = get_or xs 7 0;
  reserved_0a = get_or xs 8 0;
  reserved_0c = get_or xs 9 0;
  ioc_status = get_or xs 10 0;
  ioc_log_info = get_or xs 11 0;
  reserved_14 = get_or xs 12 0;
  port_type = get_or xs 13 0;
  reserved_16 = get_or xs 14 0;
  max_posted_cmd_buffers = get_or xs 15 0;
  reserved_1a = get_or xs 16 0;
}

-- messages with the same numbers are the same
pub port_facts_reply_values-injective : (m n : PortFactsReply) → port_facts_reply_values m ≡ port_facts_reply_values n → m ≡ n
unfolding port_facts_reply_values
port_facts_reply_values-injective m n e = ap port_facts_reply_of e
