-- The fields of a configuration reply are its numbers.
use Rattle.std.proofs.Common.{◌≡◌, ℕ, List, get_or, ap}
use Rattle.config_pages.specs.declared.config_reply.ConfigReply.{ConfigReply}
use Rattle.config_pages.specs.ConfigReply.{config_reply_values}

-- the message with these numbers
abbrev config_reply_of : List ℕ → ConfigReply
config_reply_of xs = record {
  action = get_or xs 0 0;
  sgl_flags = get_or xs 1 0;
  msg_length = get_or xs 2 0;
  function = get_or xs 3 0;
  ext_page_length = get_or xs 4 0;
  ext_page_type = get_or xs 5 0;
  msg_flags = get_or xs 6 0;
  vp_id = get_or xs 7 0;
  vf_id = get_or xs 8 0;
  reserved_0a = get_or xs 9 0;
  reserved_0c = get_or xs 10 0;
  ioc_status = get_or xs 11 0;
  ioc_log_info = get_or xs 12 0;
  page_version = get_or xs 13 0;
  page_length = get_or xs 14 0;
  page_number = get_or xs 15 0;
  page_type = get_or xs 16 0;
}

-- messages with the same numbers are the same
pub config_reply_values-injective : (m n : ConfigReply) → config_reply_values m ≡ config_reply_values n → m ≡ n
unfolding config_reply_values
config_reply_values-injective m n e = ap config_reply_of e
