-- What C reads of messages.
pub mod CallCode
pub mod DecodeAs
pub mod Decoding
pub mod FaultWords
pub mod Listing
pub mod Putting
pub mod Reading
