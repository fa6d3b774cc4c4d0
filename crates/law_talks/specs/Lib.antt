pub mod Talking
pub mod Shown
