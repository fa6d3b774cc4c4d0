pub mod Job
pub mod Input
pub mod ScatterInput
pub mod Answer
pub mod Run
