mod HostStays
mod IocOrders
mod Words
mod Orders
mod Told
mod Asked
pub mod First
pub mod Kept
