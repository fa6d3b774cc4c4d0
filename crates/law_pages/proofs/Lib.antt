pub mod Taken
pub mod ReadyKept
pub mod OthersKept
pub mod OneReady
pub mod PostsPass
