-- The fields of a SAS topology change list are its numbers.
use Rattle.std.proofs.Common.{◌≡◌, ℕ, ◌≤◌, List, length, get_or, None, ap, ◌∙◌, arith}
use Rattle.std.proofs.lemmas.Bool.Decides.{nat_tests}
use Rattle.mpi_layout.specs.Rows.{first_fault}
use Rattle.event_msgs.specs.declared.topology.Topology.{Topology}
use Rattle.event_msgs.specs.declared.topology_entry.TopologyEntry.{TopologyEntry}
use Rattle.event_msgs.specs.Topology.{topology_layout, topology_values}

-- the list with these numbers, entries and tail
abbrev topology_of : List ℕ → List TopologyEntry → List ℕ → Topology
topology_of xs entries tail = record {
  entries = entries;
  tail = tail;
  enclosure_handle = get_or xs 0 0;
  expander_dev_handle = get_or xs 1 0;
  num_phys = get_or xs 2 0;
  reserved_21 = get_or xs 3 0;
  reserved_22 = get_or xs 4 0;
  num_entries = get_or xs 5 0;
  start_phy_num = get_or xs 6 0;
  exp_status = get_or xs 7 0;
  physical_port = get_or xs 8 0;
}

-- lists with the same numbers, entries and tail are the same
pub topology_values-injective : (t u : Topology) → topology_values t ≡ topology_values u → t.entries ≡ u.entries → t.tail ≡ u.tail → t ≡ u
unfolding topology_values
topology_values-injective t u e entries tails = ap (λ xs. topology_of xs t.entries t.tail) e ∙ ap (λ es. topology_of (topology_values u) es t.tail) entries ∙ ap (λ tail. topology_of (topology_values u) u.entries tail) tails

-- enough bytes for the rows have no fault
pub topology_no_fault : (bytes : List ℕ) → 12 ≤ length bytes → first_fault topology_layout bytes ≡ None
unfolding topology_layout
topology_no_fault bytes enough = grind (arith, nat_tests)
