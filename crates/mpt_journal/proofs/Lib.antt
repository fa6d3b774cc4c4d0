pub mod Merges
mod Runs
mod Moments
pub mod Stamps
pub mod Whole
pub mod Parts
pub mod Cases
