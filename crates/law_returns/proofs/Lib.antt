mod Frames
mod Away
mod Returned
pub mod Whole
