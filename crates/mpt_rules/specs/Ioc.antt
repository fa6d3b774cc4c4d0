-- The controller's rules.
pub mod Back
pub mod Bindings
pub mod Commands
pub mod Configuration
pub mod Parts
pub mod Places
pub mod Posts
pub mod Registers
pub mod Replies
pub mod Requests
pub mod Resets
pub mod Sending
pub mod Steps
pub mod Tables
pub mod Takes
pub mod Tasks
