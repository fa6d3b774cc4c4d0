-- What the host's contracts say.
pub mod Driver
pub mod Faults
pub mod Posts
pub mod Taking
pub mod Places
pub mod Resets
pub mod Things
pub mod Asking
pub mod Plays
