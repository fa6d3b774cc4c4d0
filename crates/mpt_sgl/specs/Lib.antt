-- What the contracts of scatter lists say.
pub mod Elements
pub mod Pieces
pub mod Spelling
pub mod Segments
pub mod Faults
pub mod Areas
pub mod Held
pub mod Listing
