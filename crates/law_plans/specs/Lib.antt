-- What the law of plans says.
pub use Rattle.mpt_script.specs.Plans
pub use Rattle.mpt_rules.specs.World.Settings
pub mod Limits
