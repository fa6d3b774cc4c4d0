-- An entry of a SAS topology change list: its layout, the numbers of its fields, and the entry that stands in bytes.
use Rattle.std.specs.Prelude.{ℕ, ◌+◌, ◌==◌, Bool, ◌&&◌, List, [], ◌∷◌, codes}
use Rattle.mpi_layout.specs.Rows.{Shape, field, number}
use Rattle.mpi_layout.specs.declared.row.Rule.TheVariants.{Any}
use Rattle.event_msgs.specs.declared.topology_entry.TopologyEntry.{TopologyEntry}

-- mpi2_ioc.h, MPI2_EVENT_SAS_TOPO_PHY_ENTRY
unfoldable pub topology_entry_layout : Shape
topology_entry_layout = record {
  length = 4;
  rows =
      number 0x00 2 (codes "AttachedDevHandle") Any
      ∷ number 0x02 1 (codes "LinkRate") Any
      ∷ number 0x03 1 (codes "PhyStatus") Any
      ∷ [];
}

-- the numbers of the fields in the layout's order
unfoldable pub topology_entry_values : TopologyEntry → List ℕ
topology_entry_values m =
    m.attached_dev_handle ∷ m.link_rate ∷ m.phy_status ∷ []

-- the entry in the bytes from an offset on
abbrev pub entry_at : List ℕ → ℕ → TopologyEntry
entry_at bytes at = record { attached_dev_handle = field bytes at 2; link_rate = field bytes (at + 2) 1; phy_status = field bytes (at + 3) 1 }

-- an entry of zeros
abbrev pub blank : TopologyEntry
blank = record { attached_dev_handle = 0; link_rate = 0; phy_status = 0 }

abbrev pub is_blank : TopologyEntry → Bool
is_blank e = (e.attached_dev_handle == 0) && (e.link_rate == 0) && (e.phy_status == 0)
