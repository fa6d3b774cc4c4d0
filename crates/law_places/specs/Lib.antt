pub mod Further
pub mod Shown
