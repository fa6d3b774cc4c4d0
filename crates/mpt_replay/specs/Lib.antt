-- What the contracts on schedules carried out say.
pub mod Carrying
pub mod Seen
pub mod Reports
