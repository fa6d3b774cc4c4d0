mod Limits
mod OfCases
mod Summaries
pub mod Turns
