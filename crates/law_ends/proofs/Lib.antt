pub mod Commands
pub mod HostAnswers
pub mod HostResults
pub mod IocFrames
pub mod IocReplies
mod IocTasks
mod Recovery
pub mod Rooms
mod Strange
