-- What the contracts of the whole say.
pub mod Whole
pub mod Parties
pub mod Reached
pub mod Making
pub mod Steps
pub mod Asking
pub mod Turns
pub mod Phases
pub mod Places
pub mod Weight
pub mod Summary
