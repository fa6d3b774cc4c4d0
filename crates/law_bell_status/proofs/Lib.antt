pub mod Rung
pub mod TalkTurns
pub mod Belled
pub mod BellHost
pub mod BellKept
pub mod BellStand
