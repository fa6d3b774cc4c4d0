-- What the contracts of journals say.
pub use Rattle.mpt_rules.specs.Session.Journals
pub mod Journal
pub mod Moment
pub mod Laws
