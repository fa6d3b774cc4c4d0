pub mod Accepted
pub mod Named
mod Pages
mod Transfers
