-- What the laws say.
pub mod HostEnds
pub mod HostResults
pub mod IocEnds
pub mod IocTasks
pub mod Recovery
