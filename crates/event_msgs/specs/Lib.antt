pub mod EventAsk
pub mod EventAck
pub mod EventAckReply
pub mod TopologyEntry
pub mod Topology
pub mod EventData
pub mod EventReply
