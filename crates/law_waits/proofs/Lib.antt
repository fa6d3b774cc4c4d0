mod Full
mod Moved
pub mod Kept
