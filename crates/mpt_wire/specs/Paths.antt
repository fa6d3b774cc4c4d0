-- The paths of commands and task managements, from their posts to their answers.
pub mod Commands
pub mod Replies
pub mod Rules
pub mod Stages
pub mod Stops
pub mod Table
pub mod TerminationCounts
