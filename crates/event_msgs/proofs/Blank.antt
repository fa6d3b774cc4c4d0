-- A blank message has in each row 0 or the first number that the row's rule names.
use Rattle.std.proofs.Common.{◌≡◌, refl, replicate}
use Rattle.mpi_layout.specs.Rows.{blank_values}
use Rattle.event_msgs.specs.declared.event_ask.TheConstants.EventAsk as event_ask
use Rattle.event_msgs.specs.EventAsk.{event_ask_layout, event_ask_values}
use Rattle.event_msgs.specs.declared.event_ack.TheConstants.EventAck as event_ack
use Rattle.event_msgs.specs.EventAck.{event_ack_layout, event_ack_values}
use Rattle.event_msgs.specs.declared.event_reply.TheConstants.EventReply as event_reply
use Rattle.event_msgs.specs.EventReply.{event_reply_layout, event_reply_values}
use Rattle.event_msgs.specs.declared.event_data.EventData.TheVariants as event_data
use Rattle.event_msgs.specs.declared.topology.TheConstants.Topology as topology
use Rattle.event_msgs.specs.Topology.{topology_layout, topology_values}
use Rattle.event_msgs.specs.TopologyEntry.{blank}
use Rattle.event_msgs.specs.declared.topology_entry.TheConstants.TopologyEntry as topology_entry
use Rattle.event_msgs.specs.TopologyEntry.{topology_entry_layout, topology_entry_values}

event_ask-blank : event_ask_values event_ask.BLANK ≡ blank_values event_ask_layout
unfolding event_ask_layout event_ask_values
event_ask-blank = refl

event_ack-blank : event_ack_values event_ack.BLANK ≡ blank_values event_ack_layout
unfolding event_ack_layout event_ack_values
event_ack-blank = refl

event_reply-blank : event_reply_values event_reply.BLANK ≡ blank_values event_reply_layout
unfolding event_reply_layout event_reply_values
event_reply-blank = refl

event_reply-no_data : event_reply.BLANK.event_data ≡ event_data.Other (replicate 100 0)
event_reply-no_data = refl

topology-blank : topology_values topology.BLANK ≡ blank_values topology_layout
unfolding topology_layout topology_values
topology-blank = refl

topology-no_entries : topology.BLANK.entries ≡ replicate 22 blank
topology-no_entries = refl

topology-no_tail : topology.BLANK.tail ≡ replicate 88 0
topology-no_tail = refl

topology_entry-blank : topology_entry_values topology_entry.BLANK ≡ blank_values topology_entry_layout
unfolding topology_entry_layout topology_entry_values
topology_entry-blank = refl

topology_entry-is_blank : topology_entry.BLANK ≡ blank
topology_entry-is_blank = refl
