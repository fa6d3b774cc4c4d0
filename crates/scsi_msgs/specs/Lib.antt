pub mod ScsiIo
pub mod ScsiReply
pub mod TaskAsk
pub mod TaskReply
