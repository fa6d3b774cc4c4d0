pub mod Leaving
pub mod Resets
