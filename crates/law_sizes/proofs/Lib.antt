mod HostLengths
mod IocLengths
pub mod SizesKept
