pub mod Holders
pub mod Shown
