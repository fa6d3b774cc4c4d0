pub mod EventAskFields
pub mod EventAckFields
pub mod EventAckReplyFields
pub mod TopologyEntryFields
pub mod TopologyFields
pub mod Entries
pub mod BlankEntries
pub mod TopologyList
pub mod EventReplyFields
pub mod EventBytes
mod Blank
