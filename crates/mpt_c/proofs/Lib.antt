pub mod FabricData
pub mod Held
pub mod HostData
pub mod IocData
pub mod Values
