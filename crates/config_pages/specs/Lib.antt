pub mod ConfigAsk
pub mod ConfigReply
pub mod DevicePage0
pub mod PageAddress
