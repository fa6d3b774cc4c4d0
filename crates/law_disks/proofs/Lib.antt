pub mod Fits
pub mod Kept
pub mod Takes
pub mod Dry
pub mod DisksKept
pub mod Phys
pub mod Wired
