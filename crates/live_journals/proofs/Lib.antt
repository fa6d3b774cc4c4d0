mod Cases
mod Entered
mod ToldCases
mod Merged
pub mod Parties
