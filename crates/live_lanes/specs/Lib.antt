-- What the law of closed lanes says.
pub use Rattle.live_journals.specs.Parties
pub use Rattle.mpt_live.specs.Traffic
pub mod Closed
pub mod Meeting
pub mod Taken
