-- What the contracts of threaded sessions say.
pub use Rattle.live_journals.specs.Parties
pub use Rattle.law_plans.specs.Limits
pub mod Begun
pub mod Ended
pub mod Lanes
pub mod Left
