-- Rules that go over a trace entry by entry: passing, looking ahead, segments between resets, what lasts, and cycles.
pub mod Ahead
pub mod Cycles
pub mod Lasting
pub mod Passes
pub mod Segments
