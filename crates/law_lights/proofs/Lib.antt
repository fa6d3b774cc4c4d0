pub mod Ones
pub mod Through
pub mod UpKept
pub mod ClocksKept
