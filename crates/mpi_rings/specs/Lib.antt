-- What the contracts of descriptors and rings say.
pub mod RequestDescriptor
pub mod ReplyDescriptor
pub mod PostRing
pub mod PostEntries
pub use Rattle.mpi_layout.specs.Rows
