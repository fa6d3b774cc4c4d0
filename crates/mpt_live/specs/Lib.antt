-- What the contracts of a threaded session say.
pub use Rattle.mpt_rules.specs.Session.Journals
pub use Rattle.mpt_rules.specs.Session.OpenCases
pub mod Ends
pub mod Lanes
pub mod Recorded
pub mod Submitters
pub mod Traffic
