pub mod Phases
pub mod Handles
pub mod Removal
