-- The fields of an IOC Init reply are its numbers.
use Rattle.std.proofs.Common.{◌≡◌, ℕ, List, get_or, ap}
use Rattle.ioc_msgs.specs.declared.ioc_init_reply.IocInitReply.{IocInitReply}
use Rattle.ioc_msgs.specs.IocInitReply.{ioc_init_reply_values}

-- the message with these numbers
abbrev ioc_init_reply_of : List ℕ → IocInitReply
ioc_init_reply_of xs = record {
  who_init = get_or xs 0 0;
  reserved_01 = get_or xs 1 0;
  msg_length = get_or xs 2 0;
  function = get_or xs 3 0;
  reserved_04 = get_or xs 4 0;
  reserved_06 = get_or xs 5 0;
  msg_flags = get_or xs 6 0;
  vp_id = get_or xs 7 0;
  vf_id = get_or xs 8 0;
  reserved_0a = get_or xs 9 0;
  reserved_0c = get_or xs 10 0;
  ioc_status = get_or xs 11 0;
  ioc_log_info = get_or xs 12 0;
}

-- messages with the same numbers are the same
pub ioc_init_reply_values-injective : (m n : IocInitReply) → ioc_init_reply_values m ≡ ioc_init_reply_values n → m ≡ n
unfolding ioc_init_reply_values
ioc_init_reply_values-injective m n e = ap ioc_init_reply_of e
