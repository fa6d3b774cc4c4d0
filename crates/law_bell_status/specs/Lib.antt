pub mod Bells
pub mod Shown
