mod IocFit
mod FabricFit
mod WiringKept
mod HostNames
pub mod NamesKept
mod HostTells
pub mod LimitsKept
