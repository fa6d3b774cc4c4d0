-- What the proofs of this crate share.
pub mod WordsRead
pub mod ReadSchedule
pub mod ReadItems
pub mod ReadEntries
pub mod LineEnds
pub mod ReadTraces
pub mod CommandLength
pub mod FitSoFar
