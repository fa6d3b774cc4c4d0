pub mod Wiring
pub mod HandlesNamed
