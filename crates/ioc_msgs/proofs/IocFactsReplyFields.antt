-- The fields of an IOC Facts reply are its numbers.
use Rattle.std.proofs.Common.{◌≡◌, ℕ, List, get_or, ap}
use Rattle.ioc_msgs.specs.declared.ioc_facts_reply.IocFactsReply.{IocFactsReply}
use Rattle.ioc_msgs.specs.IocFactsReply.{ioc_facts_reply_values}

-- the message with these numbers
abbrev ioc_facts_reply_of : List ℕ → IocFactsReply
ioc_facts_reply_of xs = record {
  msg_version = get_or xs 0 0;
  msg_length = get_or xs 1 0;
  function = get_or xs 2 0;
  header_version = get_or xs 3 0;
  ioc_number = get_or xs 4 0;
  msg_flags = get_or xs 5 0;
  vp_id = get_or xs 6 0;
  vf_id = get_or xs 7 0;
  reserved_0a = get_or xs 8 0;
  ioc_exceptions = get_or xs 9 0;
  ioc_status = get_or xs 10 0;
  ioc_log_info = get_or xs 11 0;
  max_chain_depth = get_or xs 12 0;
  who_init = get_or xs 13 0;
  number_of_ports = get_or xs 14 0;
  max_msix_vectors = get_or xs 15 0;
  request_credit = get_or xs 16 0;
  product_id = get_or xs 17 0;
  ioc_capabilities = get_or xs 18 0;
  fw_version = get_or xs 19 0;
  ioc_request_frame_size = get_or xs 20 0;
  reserved_26 = get_or xs 21 0;
  max_initiators = get_or xs 22 0;
  max_targets = get_or xs 23 0;
  max_sas_expanders = get_or xs 24 0;
  max_enclosures = get_or xs 25 0;
  protocol_flags = get_or xs 26 0;
  high_priority_credit = get_or xs 27 0;
  max_reply_descriptor_post_queue_depth = get_or xs 28 0;
  reply_frame_size = get_or xs 29 0;
  max_volumes = get_or xs 30 0;
  max_dev_handle = get_or xs 31 0;
  max_persistent_entries = get_or xs 32 0;
  min_dev_handle = get_or xs 33 0;
  reserved_3e = get_or xs 34 0;
}

-- messages with the same numbers are the same
pub ioc_facts_reply_values-injective : (m n : IocFactsReply) → ioc_facts_reply_values m ≡ ioc_facts_reply_values n → m ≡ n
unfolding ioc_facts_reply_values
ioc_facts_reply_values-injective m n e = ap ioc_facts_reply_of e
