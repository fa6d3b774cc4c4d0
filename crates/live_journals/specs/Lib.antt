-- What the law of recorded parties says.
pub use Rattle.mpt_live.specs.Recorded
pub use Rattle.mpt_rules.specs.Session.Sessions
pub mod Parties
