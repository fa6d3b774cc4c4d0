pub mod AnsweredOnce
pub mod HostModes
pub mod InPlace
mod Kept
pub mod ModesAgree
pub mod Numbers
pub mod OfParty
pub mod Owned
mod ShortQueues
pub mod Tallies
pub mod TallyCases
pub mod TraceModes
pub mod TallyReplies
pub mod TallyResets
