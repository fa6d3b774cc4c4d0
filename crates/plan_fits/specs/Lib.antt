-- What it is that a trace fits a plan.
pub use Rattle.mpt_wire.specs.Fits.Plan
pub mod Told
