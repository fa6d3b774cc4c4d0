pub mod CasePasses
pub mod FactsKept
pub mod FurtherKept
pub mod Induction
pub mod Joined
pub mod Statements
pub mod Untold
