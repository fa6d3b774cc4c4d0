-- What the contracts of the replies say.
pub mod Outboxes
