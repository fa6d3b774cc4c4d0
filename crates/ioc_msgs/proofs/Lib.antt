pub mod IocFactsFields
pub mod IocFactsReplyFields
pub mod IocInitFields
pub mod IocInitReplyFields
pub mod PortFactsFields
pub mod PortFactsReplyFields
pub mod PortEnableFields
pub mod PortEnableReplyFields
pub mod UnitControlFields
pub mod UnitControlReplyFields
mod Blank
