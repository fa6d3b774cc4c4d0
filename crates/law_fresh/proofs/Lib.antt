pub mod Hosts
pub mod BareKept
pub mod FreshKept
pub mod FreshStands
