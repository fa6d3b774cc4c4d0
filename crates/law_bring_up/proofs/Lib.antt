pub mod Away
pub mod Opening
pub mod Going
pub mod Keys
pub mod Hosts
pub mod Controller
pub mod Kept
