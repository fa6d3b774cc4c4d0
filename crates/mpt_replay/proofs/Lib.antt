pub mod Lanes
pub mod Lines
pub mod Heads
pub mod Texts
pub mod Replays
