-- Sessions: each party's cases for themselves, journals, and their merge.
pub mod Journals
pub mod OpenCases
pub mod Parts
pub mod Sessions
