pub mod Leads
mod Kept
mod Led
mod Several
mod Opened
mod FabricKeeps
mod IocKeeps
mod HostKeeps
mod Plugs
mod Farther
mod Granted
mod Told
mod Stamped
mod Submitters
