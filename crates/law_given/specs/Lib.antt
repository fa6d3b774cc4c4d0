pub mod HighGiven
