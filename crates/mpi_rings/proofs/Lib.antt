pub mod Flags
pub mod Fitting
pub mod Requests
pub mod Replies
pub mod Rounds
pub mod Posting
