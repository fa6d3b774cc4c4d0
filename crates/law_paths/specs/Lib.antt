pub mod Paths
pub mod Payloads
pub mod Plain
pub mod Staged
pub mod Tags
