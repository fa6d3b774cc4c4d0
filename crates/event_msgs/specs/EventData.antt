-- An event's data: which event they are of, the bytes that stand for them, and the bytes that no row reads.
use Rattle.std.specs.Prelude.{◌≡◌, ℕ, ◌-◌, Bool, not, ◌==◌, List, take, drop}
use Rattle.std.specs.List.{list_all}
use Rattle.event_msgs.specs.declared.event_data.EventData.{EventData}
use Rattle.event_msgs.specs.declared.event_data.EventData.TheVariants as variant
use Rattle.mpi_layout.specs.Tail.{padded}
use Rattle.mpi_names.specs.declared.event.TheConstants.{MPI2_EVENT_SAS_TOPOLOGY_CHANGE_LIST}
use Rattle.event_msgs.specs.Topology.{TopologyStands, topology_end, topology_fit}

-- the one event has a topology change list, any other event data that aren't read
abbrev pub kind_fits : ℕ → EventData → Bool
kind_fits event (variant.Topology t) = event == MPI2_EVENT_SAS_TOPOLOGY_CHANGE_LIST
kind_fits event (variant.Other kept) = not (event == MPI2_EVENT_SAS_TOPOLOGY_CHANGE_LIST)

-- the bytes of the data stand for them: for a topology change list, or for themselves, with zeros past them
abbrev pub DataStands : EventData → List ℕ → Type 0
DataStands (variant.Topology t) bytes = TopologyStands t bytes
DataStands (variant.Other kept) bytes = kept ≡ padded 100 bytes

-- whether some data of this length stand for them
abbrev pub data_fit : ℕ → EventData → Bool
data_fit long (variant.Topology t) = topology_fit long t
data_fit long (variant.Other kept) = list_all (λ byte. byte == 0) (drop long kept)

-- the bytes of the data that no row and no entry reads
abbrev pub data_tail : ℕ → EventData → List ℕ
data_tail long (variant.Topology t) = take (long - topology_end t) t.tail
data_tail long (variant.Other kept) = take long kept
