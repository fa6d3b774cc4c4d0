-- The fields of a Port Facts request are its numbers.
use Rattle.std.proofs.Common.{◌≡◌, ℕ, List, get_or, ap}
use Rattle.ioc_msgs.specs.declared.port_facts.PortFacts.{PortFacts}
use Rattle.ioc_msgs.specs.PortFacts.{port_facts_values}

-- the message with these numbers
abbrev port_facts_of : List ℕ → PortFacts
port_facts_of xs = record {
  reserved_00 = get_or xs 0 0;
  chain_offset = get_or xs 1 0;
  function = get_or xs 2 0;
  reserved_04 = get_or xs 3 0;
  port_number = get_or xs 4 0;
  msg_flags = get_or xs 5 0;
  vp_id = get_or xs 6 0;
  vf_id = get_or xs 7 0;
  reserved_0a = get_or xs 8 0;
}

-- messages with the same numbers are the same
pub port_facts_values-injective : (m n : PortFacts) → port_facts_values m ≡ port_facts_values n → m ≡ n
unfolding port_facts_values
port_facts_values-injective m n e = ap port_facts_of e
