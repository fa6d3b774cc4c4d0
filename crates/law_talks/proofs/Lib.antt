pub mod Talking
pub mod TurnTalks
pub mod Holding
pub mod TalkHost
pub mod Mild
pub mod TalkKept
pub mod TalkStand
