pub mod Counts
pub mod Memory
pub mod Never
pub mod Reading
pub mod Standard
