-- The rules on the wire: what may stand in a trace, and what a trace shows.
pub mod Fits
pub mod Handles
pub mod Machine
pub mod Messages
pub mod OnWire
pub mod Paths
pub mod Queues
pub mod Ties
pub mod Walks
