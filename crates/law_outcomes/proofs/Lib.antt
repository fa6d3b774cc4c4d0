pub mod Stages
pub mod Dull
pub mod Runs
pub mod Fields
