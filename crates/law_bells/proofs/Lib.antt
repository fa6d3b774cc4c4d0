pub mod BellsKept
