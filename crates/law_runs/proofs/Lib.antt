mod Events
pub mod Runs
