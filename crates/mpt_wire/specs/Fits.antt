-- Which traces fit a schedule, and which a plan.
pub mod Blocks
pub mod Lines
pub mod Plan
pub mod Queued
pub mod Schedule
pub mod Ties
