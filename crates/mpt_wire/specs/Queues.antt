-- Lanes, identifiers, reply frames and marks: each is a queue, or goes round.
pub mod Frames
pub mod Identifiers
pub mod Lanes
pub mod LeastFree
pub mod LeastPosts
pub mod Marks
