-- What the controller's contracts say.
pub mod Configuration
pub mod Disks
pub mod FreeFrames
pub mod Handshakes
pub mod Hearing
pub mod Lists
pub mod Places
pub mod Plays
pub mod Removing
pub mod Seen
pub mod Takes
pub mod Things
pub mod Working
