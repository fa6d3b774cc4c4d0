pub mod Due
pub mod FramesRead
pub mod InputLength
pub mod Limits
pub mod ReportAnswers
