pub mod Numbered
pub mod Lists
pub mod Slots
pub mod Frames
pub mod Rings
pub mod Machine
