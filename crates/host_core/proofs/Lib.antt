pub mod Commands
pub mod Posts
pub mod Returns
pub mod Resets
pub mod DoorTurns
pub mod Inputs
pub mod Changes
pub mod Played
