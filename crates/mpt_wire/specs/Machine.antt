-- The machine of disks by SAS address and open requests, and the view of a trace that shows a run of it.
pub mod Calls
pub mod Causes
pub mod Lives
pub mod ReadyDisks
pub mod Reports
pub mod SoFar
pub mod State
pub mod Steps
pub mod View
