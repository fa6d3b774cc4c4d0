pub mod Requests
pub mod Silent
pub mod Summaries
pub mod Sums
pub mod Walks
pub mod ZeroDisks
