-- The fields of a SAS IO unit control request are its numbers.
use Rattle.std.proofs.Common.{◌≡◌, ℕ, List, get_or, ap}
use Rattle.ioc_msgs.specs.declared.unit_control.UnitControl.{UnitControl}
use Rattle.ioc_msgs.specs.UnitControl.{unit_control_values}

-- the message with these numbers
abbrev unit_control_of : List ℕ → UnitControl
unit_control_of xs = record {
  operation = get_or xs 0 0;
  reserved_01 = get_or xs 1 0;
  chain_offset = get_or xs 2 0;
  function = get_or xs 3 0;
  dev_handle = get_or xs 4 0;
  ioc_parameter = get_or xs 5 0;
  msg_flags = get_or xs 6 0;
  vp_id = get_or xs 7 0;
  vf_id = get_or xs 8 0;
  reserved_0a = get_or xs 9 0;
  reserved_0c = get_or xs 10 0;
  phy_num = get_or xs 11 0;
  prim_flags = get_or xs 12 0;
  primitive = get_or xs 13 0;
  lookup_method = get_or xs 14 0;
  reserved_15 = get_or xs 15 0;
  slot_number = get_or xs 16 0;
  lookup_address = get_or xs 17 0;
  ioc_parameter_value = get_or xs 18 0;
  reserved_24 = get_or xs 19 0;
}

-- messages with the same numbers are the same
pub unit_control_values-injective : (m n : UnitControl) → unit_control_values m ≡ unit_control_values n → m ≡ n
unfolding unit_control_values
unit_control_values-injective m n e = ap unit_control_of e
