-- The rules of the parts, and the world that they make.
pub mod Fabric
pub mod Host
pub mod Ioc
pub mod Law
pub mod Outcome
pub mod Session
pub mod World
