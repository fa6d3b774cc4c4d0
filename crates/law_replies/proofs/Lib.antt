pub mod Events
pub mod EventsKept
