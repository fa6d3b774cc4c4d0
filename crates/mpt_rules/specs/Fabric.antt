-- The fabric's rules.
pub mod Calls
pub mod Disks
pub mod Parts
pub mod Tasks
