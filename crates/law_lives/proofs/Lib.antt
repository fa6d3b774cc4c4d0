pub mod Standing
pub mod HostDoes
pub mod Lives
