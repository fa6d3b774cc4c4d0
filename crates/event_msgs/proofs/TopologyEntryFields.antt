-- The fields of an entry of a SAS topology change list are its numbers.
use Rattle.std.proofs.Common.{◌≡◌, ℕ, ◌<◌, ◌≤◌, IsTrue, List, [], ◌∷◌, length, get_or, None, ap, sym, arith}
use Rattle.std.proofs.lemmas.Bool.Decides.{nat_tests}
use Rattle.event_msgs.specs.declared.topology_entry.TopologyEntry.{TopologyEntry}
use Rattle.mpi_layout.specs.Rows.{Stands, first_fault, values_fit}
use Rattle.event_msgs.specs.TopologyEntry.{entry_at, topology_entry_layout, topology_entry_values}

-- the entry with these numbers
abbrev topology_entry_of : List ℕ → TopologyEntry
topology_entry_of xs = record {
  attached_dev_handle = get_or xs 0 0;
  link_rate = get_or xs 1 0;
  phy_status = get_or xs 2 0;
}

-- the entry whose numbers are the fields
pub entry_is : (e : TopologyEntry) (bytes : List ℕ) → Stands topology_entry_layout (topology_entry_values e) bytes → e ≡ entry_at bytes 0
unfolding topology_entry_layout topology_entry_values
entry_is e bytes stands = ap topology_entry_of (sym stands.numbers)

-- numbers that are small fit the entry's rows
pub entry_fits : (a b c : ℕ) → a < 65536 → b < 256 → c < 256 → IsTrue (values_fit topology_entry_layout.rows (a ∷ b ∷ c ∷ []))
unfolding topology_entry_layout
entry_fits a b c x y z = grind (arith, nat_tests)

-- enough bytes for an entry have no fault
pub entry_no_fault : (bytes : List ℕ) → 4 ≤ length bytes → first_fault topology_entry_layout bytes ≡ None
unfolding topology_entry_layout
entry_no_fault bytes enough = grind (arith, nat_tests)
