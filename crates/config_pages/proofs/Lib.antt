pub mod ConfigAskFields
pub mod ConfigReplyFields
pub mod DevicePage0Fields
mod Blank
