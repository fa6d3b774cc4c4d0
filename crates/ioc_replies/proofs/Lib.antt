pub mod Boxes
pub mod Members
