pub mod BytesKept
pub mod RequestsKept
pub mod Shown
