mod HeldCases
mod HeldReplies
pub mod HeldRequests
pub mod HeldSlots
pub mod Holders
pub mod LeastTaken
mod PlacesTold
