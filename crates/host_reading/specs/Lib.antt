pub mod Changes
pub mod Checks
