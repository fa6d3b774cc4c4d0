-- What the contracts of schedules and plans say.
pub use Rattle.mpt_lines.specs.Causes
pub use Rattle.mpt_lines.specs.Statements
pub use Rattle.mpt_lines.specs.Words
pub mod Allowed
pub mod Declarations
pub mod Generator
pub mod PlanParts
pub mod PlanState
pub mod Planning
pub mod Plans
pub mod Printed
pub mod PrintedPlan
pub mod Schedules
