pub mod Handshake
pub mod ReadyHandle
pub mod Constants
