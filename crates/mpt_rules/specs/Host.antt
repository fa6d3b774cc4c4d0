-- The host's rules.
pub mod Doorbell
pub mod Handshakes
pub mod Inputs
pub mod Parts
pub mod Posts
pub mod Removal
pub mod Replies
pub mod Resets
pub mod Returns
pub mod Strange
pub mod Takes
pub mod Values
