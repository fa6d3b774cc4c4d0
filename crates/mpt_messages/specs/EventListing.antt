-- The listing of an event: its rows, and its data.
use Rattle.std.specs.Prelude.{ℕ, ◌+◌, ◌*◌, List, [], ◌∷◌, ◌++◌, length, take, codes}
use Rattle.event_msgs.specs.declared.event_reply.EventReply.{EventReply}
use Rattle.event_msgs.specs.declared.event_data.EventData.{EventData}
use Rattle.event_msgs.specs.declared.event_data.EventData.TheVariants as variant
use Rattle.event_msgs.specs.declared.topology.Topology.{Topology}
use Rattle.event_msgs.specs.declared.topology_entry.TopologyEntry.{TopologyEntry}
use Rattle.event_msgs.specs.EventData.{data_tail}
use Rattle.event_msgs.specs.EventReply.{event_reply_layout, event_reply_length, event_reply_values}
use Rattle.event_msgs.specs.Topology.{topology_layout, topology_values}
use Rattle.event_msgs.specs.TopologyEntry.{topology_entry_layout, topology_entry_values}
use Rattle.mpt_text.specs.Words.{bytes_text}
use Rattle.mpt_messages.specs.Listing.{heading_text, line_end, rows_text, tail_text}

-- the entries from an offset on, three rows each
abbrev pub entries_text : ℕ → List TopologyEntry → List ℕ
entries_text at [] = []
entries_text at (entry ∷ entries) = rows_text at (topology_entry_layout).rows (topology_entry_values entry) ++ entries_text (at + 4) entries

-- the entries that the list has
abbrev pub listed : Topology → List TopologyEntry
listed list = take list.num_entries list.entries

-- a topology change list: its rows, its entries, and its tail at the offset where they end
abbrev pub topology_text : Topology → List ℕ → List ℕ
topology_text list tail =
    rows_text 0x1c (topology_layout).rows (topology_values list) ++ entries_text 0x28 (listed list)
    ++ tail_text (0x28 + 4 * length (listed list)) tail

-- the data of another event
abbrev pub kept_text : List ℕ → List ℕ
kept_text bytes = codes "1c EventData " ++ bytes_text bytes ++ line_end

abbrev pub data_text : EventData → List ℕ → List ℕ
data_text (variant.Topology list) tail = topology_text list tail
data_text (variant.Other kept) tail = kept_text tail

-- the listing of an event
abbrev pub event_listing : EventReply → List ℕ
event_listing m =
    heading_text (codes "event-reply") (event_reply_length m) ++ rows_text 0 (event_reply_layout).rows (event_reply_values m)
    ++ data_text m.event_data (data_tail (4 * m.event_data_length) m.event_data)
