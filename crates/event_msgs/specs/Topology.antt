-- A SAS topology change list: the layout of its rows, the numbers of its fields, the event data that stand for it, and which are refused.
use Rattle.std.specs.Prelude.{◌≡◌, ℕ, ◌+◌, ◌-◌, ◌*◌, ◌≤◌, Bool, ◌&&◌, ◌==◌, nat_lt, nat_le, if◌then◌else◌, Option, Some, None, List, [], ◌∷◌, ◌++◌, length, drop, map, replicate, codes}
use Rattle.std.specs.List.{list_all, range_with_len}
use Rattle.mpi_layout.specs.Rows.{Shape, Stands, number, values_fit}
use Rattle.mpi_layout.specs.declared.row.Rule.TheVariants.{Any}
use Rattle.mpi_layout.specs.declared.fault.Fault.{Fault}
use Rattle.mpi_layout.specs.declared.fault.Fault.TheVariants.{Field}
use Rattle.event_msgs.specs.declared.topology.Topology.{Topology}
use Rattle.mpi_layout.specs.Tail.{padded}
use Rattle.event_msgs.specs.TopologyEntry.{blank, entry_at, is_blank}

-- mpi2_ioc.h, MPI2_EVENT_DATA_SAS_TOPOLOGY_CHANGE_LIST
unfoldable pub topology_layout : Shape
topology_layout = record {
  length = 12;
  rows =
      number 0x00 2 (codes "EnclosureHandle") Any
      ∷ number 0x02 2 (codes "ExpanderDevHandle") Any
      ∷ number 0x04 1 (codes "NumPhys") Any
      ∷ number 0x05 1 (codes "Reserved") Any
      ∷ number 0x06 2 (codes "Reserved") Any
      ∷ number 0x08 1 (codes "NumEntries") Any
      ∷ number 0x09 1 (codes "StartPhyNum") Any
      ∷ number 0x0a 1 (codes "ExpStatus") Any
      ∷ number 0x0b 1 (codes "PhysicalPort") Any
      ∷ [];
}

-- the numbers of the fields in the layout's order
unfoldable pub topology_values : Topology → List ℕ
topology_values m =
    m.enclosure_handle ∷ m.expander_dev_handle ∷ m.num_phys ∷ m.reserved_21 ∷ m.reserved_22
    ∷ m.num_entries ∷ m.start_phy_num ∷ m.exp_status ∷ m.physical_port ∷ []

-- where the entries end in the event data
abbrev pub topology_end : Topology → ℕ
topology_end t = 12 + 4 * t.num_entries

-- the event data stand for the list: its rows, then NumEntries entries of 4 bytes each, and the rest is its tail; past the data there are blank entries and zeros
pub record TopologyStands (t : Topology) (bytes : List ℕ) : Type 0 where
  pub rows : Stands topology_layout (topology_values t) bytes
  pub whole : topology_end t ≤ length bytes
  pub entries : t.entries ≡ map (λ i. entry_at bytes (12 + 4 * i)) (range_with_len 0 t.num_entries) ++ replicate (22 - t.num_entries) blank
  pub tail : t.tail ≡ padded 88 (drop (topology_end t) bytes)

-- the refusal of a list with so many entries in so many dwords: too few for its rows, then too few for its entries
abbrev pub topology_refusal : ℕ → ℕ → Option Fault
topology_refusal words entries = if nat_lt words 3 then Some (Field 0x00) else if nat_lt words (3 + entries) then Some (Field 0x24) else None

-- whether some event data of this length stand for the list
abbrev pub topology_fit : ℕ → Topology → Bool
topology_fit long t = values_fit topology_layout.rows (topology_values t) && nat_le (topology_end t) long && list_all is_blank (drop t.num_entries t.entries) && list_all (λ byte. byte == 0) (drop (long - topology_end t) t.tail)
