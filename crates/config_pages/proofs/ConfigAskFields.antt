-- The fields of a configuration request are its numbers.
use Rattle.std.proofs.Common.{◌≡◌, ℕ, List, get_or, ap}
use Rattle.config_pages.specs.declared.config_ask.ConfigAsk.{ConfigAsk}
use Rattle.config_pages.specs.ConfigAsk.{config_ask_values}

-- the message with these numbers
abbrev config_ask_of : List ℕ → ConfigAsk
config_ask_of xs = record {
  action = get_or xs 0 0;
  sgl_flags = get_or xs 1 0;
  chain_offset = get_or xs 2 0;
  function = get_or xs 3 0;
  ext_page_length = get_or xs 4 0;
  ext_page_type = get_or xs 5 0;
  msg_flags = get_or xs 6 0;
  vp_id = get_or xs 7 0;
  vf_id = get_or xs 8 0;
  reserved_0a = get_or xs 9 0;
  reserved_0c = get_or xs 10 0;
  proxy_vf_id = get_or xs 11 0;
  reserved_0e = get_or xs 12 0;
  reserved_10 = get_or xs 13 0;
  page_version = get_or xs 14 0;
  page_length = get_or xs 15 0;
  page_number = get_or xs 16 0;
  page_type = get_or xs 17 0;
  page_address = get_or xs 18 0;
  sge_length = get_or xs 19 0;
  sge_flags = get_or xs 20 0;
  sge_address = get_or xs 21 0;
}

-- messages with the same numbers are the same
pub config_ask_values-injective : (m n : ConfigAsk) → config_ask_values m ≡ config_ask_values n → m ≡ n
unfolding config_ask_values
config_ask_values-injective m n e = ap config_ask_of e
