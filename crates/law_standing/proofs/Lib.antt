pub mod Outcomes
pub mod PostsPass
pub mod RepliesPass
pub mod EntriesPass
pub mod FrameBytes
pub mod WrittenKept
pub mod RepliesKept
pub mod Shown
