-- What the contracts of traces say.
pub use Rattle.mpt_text.specs.Words
pub mod Command
pub mod Numbers
pub mod Schedule
pub mod Items
pub mod Entries
pub mod Summary
pub mod Counts
pub mod Parties
pub mod Held
pub mod Reading
pub mod ReadingSchedule
pub mod ReadingItems
pub mod ReadingEntries
