pub mod Exchanges
mod Examples
pub mod KeyLaw
pub mod DoorKeys
pub mod DoorDwords
pub mod HostTurns
pub mod HostRuns
pub mod Meetings
pub mod Constants
