pub mod Premises
pub mod Standing
mod Silent
pub mod Kept
pub mod Says
