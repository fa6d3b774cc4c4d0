-- The fields of an IOC Facts request are its numbers.
use Rattle.std.proofs.Common.{◌≡◌, ℕ, List, get_or, ap}
use Rattle.ioc_msgs.specs.declared.ioc_facts.IocFacts.{IocFacts}
use Rattle.ioc_msgs.specs.IocFacts.{ioc_facts_values}

-- the message with these numbers
abbrev ioc_facts_of : List ℕ → IocFacts
ioc_facts_of xs = record {
  reserved_00 = get_or xs 0 0;
  chain_offset = get_or xs 1 0;
  function = get_or xs 2 0;
  reserved_04 = get_or xs 3 0;
  reserved_06 = get_or xs 4 0;
  msg_flags = get_or xs 5 0;
  vp_id = get_or xs 6 0;
  vf_id = get_or xs 7 0;
  reserved_0a = get_or xs 8 0;
}

-- messages with the same numbers are the same
pub ioc_facts_values-injective : (m n : IocFacts) → ioc_facts_values m ≡ ioc_facts_values n → m ≡ n
unfolding ioc_facts_values
ioc_facts_values-injective m n e = ap ioc_facts_of e
