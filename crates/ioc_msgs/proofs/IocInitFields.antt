-- The fields of an IOC Init request are its numbers.
use Rattle.std.proofs.Common.{◌≡◌, ℕ, List, get_or, ap}
use Rattle.ioc_msgs.specs.declared.ioc_init.IocInit.{IocInit}
use Rattle.ioc_msgs.specs.IocInit.{ioc_init_values}

-- the message with these numbers
abbrev ioc_init_of : List ℕ → IocInit
ioc_init_of xs = record {
  who_init = get_or xs 0 0;
  reserved_01 = get_or xs 1 0;
  chain_offset = get_or xs 2 0;
  function = get_or xs 3 0;
  reserved_04 = get_or xs 4 0;
  reserved_06 = get_or xs 5 0;
  msg_flags = get_or xs 6 0;
  vp_id = get_or xs 7 0;
  vf_id = get_or xs 8 0;
  reserved_0a = get_or xs 9 0;
  msg_version = get_or xs 10 0;
  header_version = get_or xs 11 0;
  reserved_10 = get_or xs 12 0;
  reserved_14 = get_or xs 13 0;
  host_msix_vectors = get_or xs 14 0;
  reserved_18 = get_or xs 15 0;
  system_request_frame_size = get_or xs 16 0;
  reply_descriptor_post_queue_depth = get_or xs 17 0;
  reply_free_queue_depth = get_or xs 18 0;
  sense_buffer_address_high = get_or xs 19 0;
  system_reply_address_high = get_or xs 20 0;
  system_request_frame_base_address = get_or xs 21 0;
  reply_descriptor_post_queue_address = get_or xs 22 0;
  reply_free_queue_address = get_or xs 23 0;
  time_stamp = get_or xs 24 0;
}

-- messages with the same numbers are the same
pub ioc_init_values-injective : (m n : IocInit) → ioc_init_values m ≡ ioc_init_values n → m ≡ n
unfolding ioc_init_values
ioc_init_values-injective m n e = ap ioc_init_of e
