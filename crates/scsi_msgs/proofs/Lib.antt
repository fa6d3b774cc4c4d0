pub mod ScsiIoFields
pub mod ScsiReplyFields
pub mod TaskAskFields
pub mod TaskReplyFields
pub mod ScsiReplyTail
mod Blank
