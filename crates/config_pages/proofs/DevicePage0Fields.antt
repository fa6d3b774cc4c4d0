-- The fields of sAS Device Page 0 are its numbers.
use Rattle.std.proofs.Common.{◌≡◌, ℕ, List, get_or, ap}
use Rattle.config_pages.specs.declared.device_page0.DevicePage0.{DevicePage0}
use Rattle.config_pages.specs.DevicePage0.{device_page0_values}

-- the message with these numbers
abbrev device_page0_of : List ℕ → DevicePage0
device_page0_of xs = record {
  page_version = get_or xs 0 0;
  reserved_01 = get_or xs 1 0;
  page_number = get_or xs 2 0;
  page_type = get_or xs 3 0;
  ext_page_length = get_or xs 4 0;
  ext_page_type = get_or xs 5 0;
  reserved_07 = get_or xs 6 0;
  slot = get_or xs 7 0;
  enclosure_handle = get_or xs 8 0;
  sas_address = get_or xs 9 0;
  parent_dev_handle = get_or xs 10 0;
  phy_num = get_or xs 11 0;
  access_status = get_or xs 12 0;
  dev_handle = get_or xs 13 0;
  attached_phy_identifier = get_or xs 14 0;
  zone_group = get_or xs 15 0;
  device_info = get_or xs 16 0;
  flags = get_or xs 17 0;
  physical_port = get_or xs 18 0;
  max_port_connections = get_or xs 19 0;
  device_name = get_or xs 20 0;
  rest_2c = get_or xs 21 0;
  rest_34 = get_or xs 22 0;
}

-- messages with the same numbers are the same
pub device_page0_values-injective : (m n : DevicePage0) → device_page0_values m ≡ device_page0_values n → m ≡ n
unfolding device_page0_values
device_page0_values-injective m n e = ap device_page0_of e
