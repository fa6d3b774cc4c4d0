pub mod Opened
pub mod Led
pub mod Numbered
pub mod Sized
pub mod Made
pub mod Whole
pub mod Summed
